-- Stated. The limits of a certificate that is read.
use Rattle.std.specs.Prelude.{◌≡◌, false, ℕ, ◌≤◌, ◌*◌, ◌^◌, length}
use Rattle.frac_core.specs.Limits.{most_rows, most_columns}
use Rattle.cert_text.specs.Numbers.{CertHas, IsReadable, cert_is_narrow}
use Rattle.cert_text.specs.declared.cert.Cert.{Cert}

-- the most segments of a certificate
abbrev pub most_segments : ℕ
most_segments = 2 ^ 20

-- the most rank intervals of a certificate
abbrev pub most_intervals : ℕ
most_intervals = 8192

-- the most sides of a certificate: rows times segments
abbrev pub most_sides : ℕ
most_sides = 2 ^ 30

-- at most 128 columns, 16,384 rows, 2^20 segments, 8,192 intervals and 2^30 rows times segments; and no more digits than are
-- read, where a number is wider than 127 bits
pub record IsWithinLimits (c : Cert) : Type 0 where
  pub columns : c.problem.columns ≤ most_columns
  pub rows : length c.problem.rows ≤ most_rows
  pub segments : length c.segments ≤ most_segments
  pub intervals : length c.intervals ≤ most_intervals
  pub sides : length c.problem.rows * length c.segments ≤ most_sides
  pub digits : cert_is_narrow c ≡ false → CertHas IsReadable c
