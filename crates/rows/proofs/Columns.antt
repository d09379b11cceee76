-- One column of a row: its field where the bytes reach, no form where they run out.
use Rattle.std.proofs.Common.{◌≡◌, ℕ, ◌<◌, ◌≤◌, List, length, take, Err}
use Rattle.std.proofs.lemmas.Bool.{le-leb, lt-leb}
use Rattle.rows.specs.declared.field.FieldFault.TheVariants.{Form}
use Rattle.rows.specs.Fields.{field_read}
use Rattle.rows.specs.Rows.{column_read}

pub short_column : (width limit : ℕ) (bytes : List ℕ) → length bytes < width → column_read width limit bytes ≡ Err Form
short_column width limit bytes h = rw (lt-leb width (length bytes) h, column_read)

pub whole_column : (width limit : ℕ) (bytes : List ℕ) → width ≤ length bytes → column_read width limit bytes ≡ field_read (take width bytes) limit
whole_column width limit bytes h = rw (le-leb width (length bytes) h, column_read)
