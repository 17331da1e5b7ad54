-- Texts in UTF-8 as TOML.
use Rattle.std.proofs.Common.{◌≡◌, true, false, List, ℕ, Some, None, Err, refl}
use Rattle.std.specs.Str.{IsUtf8, is_utf8}
use Rattle.std.proofs.lemmas.Str.{IsUtf8-from_is_utf8, is_utf8-from_IsUtf8}
use Rattle.toml.specs.Data.{Members}
use Rattle.toml.specs.Parse.{parse_document}
use Rattle.cf_policylang.specs.declared.refusal.Key.TheVariants as key
use Rattle.cf_policylang.specs.declared.refusal.Cause.TheVariants as cause
use Rattle.cf_policylang.specs.Documents.{toml_of}
use Rattle.cf_policylang.specs.Tested.{or_refused, refusal, at_document}

pub toml_read : (bytes : List ℕ) (ms : Members) → IsUtf8 bytes → parse_document bytes ≡ Some ms → toml_of bytes ≡ Some ms
toml_read bytes ms utf8 read = rw (is_utf8-from_IsUtf8 bytes utf8) read

toml_unread : (bytes : List ℕ) → (IsUtf8 bytes → parse_document bytes ≡ None) → toml_of bytes ≡ None
toml_unread bytes unread =
    elim (is_utf8 bytes) as (λ b. is_utf8 bytes ≡ b → toml_of bytes ≡ None)
    [ true ↦ λ e. rw e (unread (IsUtf8-from_is_utf8 bytes e)) | false ↦ λ e. rw e refl ]
    refl

-- the tests of a text that is no TOML stop there
pub refused_text : (bytes : List ℕ) → (IsUtf8 bytes → parse_document bytes ≡ None)
    → or_refused cause.NotToml key.Nothing at_document (toml_of bytes) ≡ Err (refusal cause.NotToml key.Nothing at_document)
refused_text bytes unread = rw (toml_unread bytes unread) refl
