-- A certificate that was read is within the limits.
use Rattle.std.proofs.Common.{◌≡◌, ◌*◌, ◌≤◌, ℕ, Bool, true, false, List, Ok, Err, length, nat_lt, if◌then◌else◌, arith, refl, ap, subst}
use Rattle.std.proofs.lemmas.Bool.{ltb-false, or_parts}
use Rattle.std.proofs.lemmas.List.{length-map}
use Rattle.serde_json.specs.Find.{as_object}
use Rattle.frac_core.specs.Limits.{most_columns, most_rows}
use Rattle.loss_model.specs.Values.{exact_row}
use Rattle.cert_text.specs.Certificates.{cert_of, cert_of_data, is_too_large, json_of, layout_of, or_not_json, or_version, top_members, version_of, within_limits}
use Rattle.cert_text.specs.Contents.{Content, content}
use Rattle.cert_text.specs.Limits.{IsWithinLimits, most_intervals, most_segments, most_sides}
use Rattle.cert_text.specs.Reading.{or_shape}
use Rattle.cert_text.specs.declared.cert.Cert.{Cert}
use Rattle.cert_text.specs.declared.fault.CertFault.{CertFault}
use Rattle.cert_text.specs.declared.fault.CertFault.TheVariants.{TooLarge}
use Rattle.cert_text.proofs.Readable.{AreReadable, read_both, top_readable}

small : (b : Bool) (fault : CertFault) (c x : Content) → (if b then Err fault else Ok c) ≡ Ok x → (b ≡ false) × (c ≡ x)
small true fault c x h = absurd (cc h)
small false fault c x h = (refl, cc h)

read_parts : (bytes : List ℕ) (c : Content) → cert_of bytes ≡ Ok c → (is_too_large c ≡ false) × AreReadable c
unfolding cert_of cert_of_data
read_parts bytes c h =
    let parsed = read_both (or_not_json (json_of bytes)) cert_of_data c h in
    let top = read_both (or_shape (as_object parsed.0)) _ c parsed.2 in
    let version = read_both (version_of parsed.0) _ c top.2 in
    let layout = read_both (or_version (layout_of version.0)) _ c version.2 in
    let all = read_both (top_members layout.0 top.0) within_limits c layout.2 in
    let found = small (is_too_large all.0) TooLarge all.0 c all.2 in
    subst (λ (c : Content). (is_too_large c ≡ false) × AreReadable c) found.1 (found.0, top_readable layout.0 top.0 all.0 all.1)

pub read_within : (bytes : List ℕ) (cert : Cert) → cert_of bytes ≡ Ok (content cert) → IsWithinLimits cert
read_within bytes cert h =
    let c = content cert in
    let parts = read_parts bytes c h in
    let columns = or_parts (nat_lt most_columns c.problem.columns) _ parts.0 in
    let rows = or_parts (nat_lt most_rows (length c.problem.rows)) _ columns.1 in
    let segments = or_parts (nat_lt most_segments (length c.segments)) _ rows.1 in
    let intervals = or_parts (nat_lt most_intervals (length c.intervals)) (nat_lt most_sides (length c.problem.rows * length c.segments)) segments.1 in
    let sides = ap (λ (rows : ℕ). rows * length cert.segments) (length-map cert.problem.rows exact_row) in
    record {
      columns = ltb-false most_columns c.problem.columns columns.0;
      rows = omega (arith, ltb-false most_rows (length c.problem.rows) rows.0, length-map cert.problem.rows exact_row);
      segments = ltb-false most_segments (length c.segments) segments.0;
      intervals = ltb-false most_intervals (length c.intervals) intervals.0;
      sides = subst (λ (n : ℕ). n ≤ most_sides) sides (ltb-false most_sides (length c.problem.rows * length c.segments) intervals.1);
      digits = λ wide. record { segments = parts.1.segments; intervals = parts.1.intervals };
    }
