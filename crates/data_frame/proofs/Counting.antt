-- How many names a table has.
use Rattle.std.proofs.Common.{◌≡◌, ◌≤◌, ℕ, List, [], ◌∷◌, Option, Some, None, Ok, length, refl, subst, ap, arith, length-drop}
use Rattle.rational_laws.specs.Rational.{ℚ}
use Rattle.data_frame.specs.Records.{Row, records_of}
use Rattle.data_frame.specs.Faults.{first_fault, header_fault, names_of, rows_fault, set_aside}
use Rattle.data_frame.specs.Tables.{TableOf, table_of, table_of_records, table_under, unless}
use Rattle.data_frame.specs.declared.fault.TableFault.{TableFault}
use Rattle.data_frame.proofs.Faults.{none_first}
use Rattle.data_frame.proofs.Tables.{header_short}

no_fault : (fault : Option TableFault) (made table : TableOf ℚ) → unless fault made ≡ Ok table → (fault ≡ None) × (made ≡ table)
no_fault None made table h = (refl, cc h)
no_fault (Some fault) made table h = absurd (cc h)

few_of_records : (rows : List Row) (table : TableOf ℚ) → table_of_records rows ≡ Ok table → length table.names ≤ 1024
unfolding table_of_records table_under first_fault
few_of_records [] table h = absurd (cc h)
few_of_records (header ∷ rows) table h =
    let sound = no_fault (first_fault (header ∷ rows)) (table_under header rows) table h in
    let narrow = header_short header (none_first (header_fault header) (rows_fault (length header) 1 rows) sound.0) in
    let names : names_of header ≡ table.names = ap (λ (t : TableOf ℚ). t.names) sound.1 in
    subst (λ (ns : List (List ℕ)). length ns ≤ 1024) names (omega (arith, length-drop (set_aside header) header))

-- a table that is read has at most 1,024 names
pub few_names : (bytes : List ℕ) (table : TableOf ℚ) → table_of bytes ≡ Ok table → length table.names ≤ 1024
few_names bytes table h = few_of_records (records_of bytes) table h
