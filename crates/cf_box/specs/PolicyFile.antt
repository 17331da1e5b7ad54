-- The policy that a file holds, `HasPolicy`, and the site of a name, `FindsSite`.
use Rattle.std.specs.Prelude.{◌≡◌, ℕ, false, List, Option, Some, Result, Ok, Err, length, bytes_eq, find, option_and_then}
use Rattle.std.specs.List.{sum_by}
use Rattle.toml.specs.Text.{IsDocumentText}
use Rattle.cf_outside.specs.Files.{Content, untold, absent, holds, IsPartly, IsWhole, content_after_write}
use Rattle.cf_policy.specs.Site.{SiteValue, site_at}
use Rattle.cf_policy.specs.declared.Asset.{Asset}
use Rattle.cf_policy.specs.declared.Policy.{Policy}
use Rattle.cf_policylang.specs.Documents.{policy_meaning, text_meaning}
use Rattle.cf_policylang.specs.Migrating.{migrated}
use Rattle.cf_policylang.specs.declared.PolicyRefusal.{PolicyRefusal}
use Rattle.cf_ending.specs.declared.Done.{Done}
use Rattle.cf_ending.specs.declared.Done.TheVariants as done
use Rattle.cf_ending.specs.declared.Stop.{Stop}
use Rattle.cf_ending.specs.declared.Stop.TheVariants as stop

-- the file's bytes mean this policy
pub record HasPolicy (file : Content) (p : Policy) : Type 0 where
  pub bytes : List ℕ
  pub whole : IsWhole file bytes
  pub means : policy_meaning bytes ≡ Ok p

-- the file's bytes mean none, and this is the first refusal
abbrev pub IsRefusedBy : Content → PolicyRefusal → Type 0
IsRefusedBy untold refusal = Unit {0}
IsRefusedBy absent refusal = ⊥
IsRefusedBy (holds bytes) refusal = policy_meaning bytes ≡ Err refusal

-- what stops the work as a policy is read
abbrev pub StopsPolicy : Stop → Type 0
StopsPolicy stop.ReadFault = Unit {0}
StopsPolicy (stop.PolicyRefused r) = Unit {0}
StopsPolicy stop.NoMemory = Unit {0}
StopsPolicy _ = ⊥

-- the asset of a name
abbrev pub asset_named : List ℕ → Policy → Option Asset
asset_named name p = find (λ a. bytes_eq a.name name) p.assets

-- the site that has an asset of the name: all assets behind the address and port of that one
abbrev pub site_named : List ℕ → Policy → Option SiteValue
site_named name p = option_and_then (λ a. site_at p.assets a.endpoint) (asset_named name p)

-- the policy that the file holds has an asset of the name, and this is its site
pub record FindsSite (file : Content) (name : List ℕ) (site : SiteValue) : Type 0 where
  pub policy : Policy
  pub has : HasPolicy file policy
  pub named : site_named name policy ≡ Some site

-- the file is told, and its bytes mean a policy
pub record TellsPolicy (file : Content) : Type 0 where
  pub bytes : List ℕ
  pub policy : Policy
  pub told : file ≡ holds bytes
  pub means : policy_meaning bytes ≡ Ok policy

-- the file is told, and its bytes mean a policy that has an asset of the name, of this site
pub record TellsSite (file : Content) (name : List ℕ) : Type 0 where
  pub bytes : List ℕ
  pub policy : Policy
  pub site : SiteValue
  pub told : file ≡ holds bytes
  pub means : policy_meaning bytes ≡ Ok policy
  pub named : site_named name policy ≡ Some site

-- the number of rules that all assets have
abbrev pub rule_count : List Asset → ℕ
rule_count assets = sum_by (λ a. length a.rules) assets

-- the numbers of a policy's assets and rules, as they are printed
abbrev pub counted : Policy → Done
counted p = done.Checked (length p.assets) (rule_count p.assets)

-- the file was created and holds a text that means exactly this policy, its size left aside. It is a document of the least version, 2 or 3,
-- that can state the policy, with a set for each list of points that two rules state
pub record HoldsPolicyText (p : Policy) (before after : Content) : Type 0 where
  pub text : List ℕ
  pub is_document : IsDocumentText false (migrated p) text
  pub means : text_meaning text ≡ Ok p
  pub in_file : after ≡ content_after_write before text

-- a content that is as it was, or was created and holds a beginning of such a text
pub record HoldsPolicyPart (p : Policy) (before after : Content) : Type 0 where
  pub text : List ℕ
  pub is_document : IsDocumentText false (migrated p) text
  pub means : text_meaning text ≡ Ok p
  pub in_file : IsPartly text before after

-- what the writing of a policy to a file answers
abbrev pub WritesPolicy : Policy → (before after : Content) → Result Done Stop → Type 0
WritesPolicy p before after (Ok d) = (d ≡ counted p) × HoldsPolicyText p before after
WritesPolicy p before after (Err stop.WriteFault) = HoldsPolicyPart p before after
WritesPolicy p before after (Err stop.NoMemory) = Unit {0}
WritesPolicy p before after (Err _) = ⊥
