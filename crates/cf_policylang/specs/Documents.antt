-- What the bytes of a policy's text mean, a policy or the first refusal: policy_meaning. The text is TOML 1.1 in UTF-8.
use Rattle.std.specs.Prelude.{ℕ, ℤ, pos, nat_lt, if◌then◌else◌, List, [], ◌∷◌, length, Option, Some, None, Ok}
use Rattle.std.specs.Ordering.{int_eq}
use Rattle.std.specs.Str.{is_utf8}
use Rattle.toml.specs.Data.{Members, Items}
use Rattle.toml.specs.Parse.{parse_document}
use Rattle.cf_policy.specs.declared.policy.Policy.{Policy}
use Rattle.cf_policylang.specs.declared.fields.Kind.TheVariants as kind
use Rattle.cf_policylang.specs.declared.refusal.Key.{Key}
use Rattle.cf_policylang.specs.declared.refusal.Key.TheVariants as key
use Rattle.cf_policylang.specs.declared.refusal.Cause.TheVariants as cause
use Rattle.cf_policylang.specs.Assets.{assets_from}
use Rattle.cf_policylang.specs.Fields.{as_number, as_array_of, count, has_other, required}
use Rattle.cf_policylang.specs.declared.sets.Edition.{Edition}
use Rattle.cf_policylang.specs.declared.sets.Edition.TheVariants as edition
use Rattle.cf_policylang.specs.Sets.{sets}
use Rattle.cf_policylang.specs.Tested.{Tested, and_then, refused, or_refused, at_document}
use Rattle.cf_policy.specs.Within.{most_assets}
use Rattle.cf_policylang.specs.declared.documents.TheConstants.{LONGEST_TEXT}

-- the keys that a document of a version may have
abbrev pub document_keys : Edition → List Key
document_keys edition.First = key.Version ∷ key.Asset ∷ []
document_keys edition.Second = key.Version ∷ key.Asset ∷ key.Set ∷ []
document_keys edition.Third = key.Version ∷ key.Asset ∷ key.Set ∷ []

-- the edition of a version, which is 1, 2 or 3
abbrev pub edition_of : ℤ → Option Edition
edition_of z =
    if int_eq z (pos 1) then Some edition.First
    else if int_eq z (pos 2) then Some edition.Second
    else if int_eq z (pos 3) then Some edition.Third
    else None

-- the version of a document
abbrev pub version : Members → Tested Edition
version members =
    and_then (required key.Version at_document members) (λ value.
    and_then (as_number key.Version at_document value) (λ z. or_refused cause.Version key.Version at_document (edition_of z)))

-- the array of the assets
abbrev pub asset_items : Members → Tested Items
asset_items members =
    and_then (required key.Asset at_document members) (λ value.
    and_then (as_array_of kind.Table key.Asset at_document value) (λ items.
    if nat_lt most_assets (count items) then refused cause.TooMany key.Asset at_document else Ok items))

-- the policy of a document: its version, its keys, its sets and its assets, tested in this order
abbrev pub document : Members → Tested Policy
document members =
    and_then (version members) (λ own_edition.
    if has_other (document_keys own_edition) members then refused cause.UnknownKey key.Nothing at_document else
    and_then (sets members) (λ own_sets.
    and_then (asset_items members) (λ items.
    and_then (assets_from (record { edition = own_edition; sets = own_sets }) 0 items []) (λ own_assets.
    Ok (record { assets = own_assets })))))

-- the table that bytes in UTF-8 are as TOML
abbrev pub toml_of : List ℕ → Option Members
toml_of bytes = if is_utf8 bytes then parse_document bytes else None

-- the meaning of a text of any size
abbrev pub text_meaning : List ℕ → Tested Policy
text_meaning bytes = and_then (or_refused cause.NotToml key.Nothing at_document (toml_of bytes)) (λ members. document members)

-- the meaning of a file, which has at most so many bytes
abbrev pub policy_meaning : List ℕ → Tested Policy
policy_meaning bytes = if nat_lt LONGEST_TEXT (length bytes) then refused cause.TooMany key.Nothing at_document else text_meaning bytes
