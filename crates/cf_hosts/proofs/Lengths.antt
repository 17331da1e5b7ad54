-- How long the text of a table is at most that has only texts, integers and arrays of such values under its headers.
use Rattle.std.proofs.Common.{◌≡◌, ℕ, ◌+◌, ◌≤◌, Bool, true, false, ◌&&◌, List, [], ◌∷◌, length, length-append, refl, arith}
use Rattle.std.proofs.lemmas.Bool.{and_parts, false≢true}
use Rattle.std.specs.Fmt.{signed_decimal}
use Rattle.toml.specs.Data.{Data, string, integer, array, Items, no_items, item}
use Rattle.toml.specs.Tables.{Definition, key_value, std_table, array_table, Expression}
use Rattle.toml.specs.Text.{IsValueText, IsItemsText, IsLineText, IsLinesText, breaks_lines}
use Rattle.toml_parser.specs.Strings.{Key}
use Rattle.toml_writer.specs.Text.{string_text, dotted_text}

abbrev mutual
  pub is_plain : Data → Bool
  is_plain (string s) = true
  is_plain (integer z) = true
  is_plain (array ds) = are_plain ds
  is_plain _ = false

  pub are_plain : Items → Bool
  are_plain no_items = true
  are_plain (item d ds) = is_plain d && are_plain ds

abbrev mutual
  pub value_room : Data → ℕ
  value_room (string s) = length (string_text s)
  value_room (integer z) = length (signed_decimal z)
  value_room (array ds) = 1 + items_room ds
  value_room _ = 0

  pub items_room : Items → ℕ
  items_room no_items = 1
  items_room (item d ds) = 2 + (value_room d + items_room ds)

abbrev pub is_plain_line : Definition → Bool
is_plain_line (key_value d) = is_plain d
is_plain_line _ = true

abbrev pub are_plain_lines : List Expression → Bool
are_plain_lines [] = true
are_plain_lines (e ∷ es) = is_plain_line e.1 && are_plain_lines es

abbrev pub line_room : Key → Definition → ℕ
line_room key (key_value d) = length (dotted_text key) + (4 + value_room d)
line_room key std_table = length (dotted_text key) + 6
line_room key array_table = length (dotted_text key) + 6

abbrev pub lines_room : List Expression → ℕ
lines_room [] = 0
lines_room (e ∷ es) = line_room e.0 e.1 + lines_room es

unbroken : (ds : Items) → breaks_lines false ds ≡ false
unbroken no_items = refl
unbroken (item d no_items) = refl
unbroken (item d (item e ds)) = refl

mutual
  value_short : (d : Data) (text : List ℕ) → is_plain d ≡ true → IsValueText false d text → length text ≤ value_room d
  value_short (string s) text plain h = rw h (omega arith)
  value_short (integer z) text plain h = rw h.0 (omega arith)
  value_short (array ds) text plain h =
      let inner : length h.0 ≤ items_room ds = items_short true ds h.0 plain (rw unbroken at h.2) in
      rw h.1 (omega arith)
  value_short d text plain h = absurd (false≢true plain)

  items_short : (is_first : Bool) (ds : Items) (text : List ℕ) → are_plain ds ≡ true → IsItemsText false false is_first ds text → length text ≤ items_room ds
  items_short is_first no_items text plain h = rw h (omega arith)
  items_short true (item d ds) text plain h =
      let (first, rest) = and_parts (is_plain d) (are_plain ds) plain in
      let here : length h.0 ≤ value_room d = value_short d h.0 first h.3 in
      let more : length h.1 ≤ items_room ds = items_short false ds h.1 rest h.4 in
      rw h.2 (simp length-append (omega arith))
  items_short false (item d ds) text plain h =
      let (first, rest) = and_parts (is_plain d) (are_plain ds) plain in
      let here : length h.0 ≤ value_room d = value_short d h.0 first h.3 in
      let more : length h.1 ≤ items_room ds = items_short false ds h.1 rest h.4 in
      rw h.2 (simp length-append (omega arith))

line_short : (started : Bool) (key : Key) (line : Definition) (text : List ℕ) → is_plain_line line ≡ true → IsLineText false started key line text → length text ≤ line_room key line
line_short started key (key_value d) text plain h =
    let here : length h.0 ≤ value_room d = value_short d h.0 plain h.2 in
    rw h.1 (simp length-append (omega arith))
line_short true key std_table text plain h = rw h (simp length-append (omega arith))
line_short false key std_table text plain h = rw h (simp length-append (omega arith))
line_short true key array_table text plain h = rw h (simp length-append (omega arith))
line_short false key array_table text plain h = rw h (simp length-append (omega arith))

pub lines_short : (started : Bool) (lines : List Expression) (text : List ℕ) → are_plain_lines lines ≡ true → IsLinesText false started lines text → length text ≤ lines_room lines
lines_short started [] text plain h = rw h (omega arith)
lines_short started (e ∷ es) text plain h =
    let (first, rest) = and_parts (is_plain_line e.1) (are_plain_lines es) plain in
    let here : length h.0 ≤ line_room e.0 e.1 = line_short started e.0 e.1 h.0 first h.3 in
    let more : length h.1 ≤ lines_room es = lines_short true es h.1 rest h.4 in
    rw h.2 (simp length-append (omega arith))
