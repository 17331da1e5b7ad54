-- The words of a policy's text: key_text, cause_number and refusal_text.
use Rattle.std.specs.Prelude.{ℕ, List, ◌++◌, codes, decimal}
use Rattle.cf_policylang.specs.declared.refusal.Key.{Key}
use Rattle.cf_policylang.specs.declared.refusal.Key.TheVariants as key
use Rattle.cf_policylang.specs.declared.refusal.Cause.{Cause}
use Rattle.cf_policylang.specs.declared.refusal.Cause.TheVariants as cause
use Rattle.cf_policylang.specs.declared.refusal.PolicyRefusal.{PolicyRefusal}

-- the spelling of a key; the first stands for no key
abbrev pub key_text : Key → List ℕ
key_text key.Nothing = codes "-"
key_text key.Version = codes "version"
key_text key.Asset = codes "asset"
key_text key.Name = codes "name"
key_text key.Address = codes "address"
key_text key.Port = codes "port"
key_text key.Protocol = codes "protocol"
key_text key.Station = codes "station"
key_text key.Master = codes "master"
key_text key.Rule = codes "rule"
key_text key.Action = codes "action"
key_text key.Clients = codes "clients"
key_text key.Codes = codes "codes"
key_text key.Groups = codes "groups"
key_text key.Points = codes "points"
key_text key.Values = codes "values"
key_text key.Most = codes "most"
key_text key.Seconds = codes "seconds"
key_text key.Set = codes "set"
key_text key.Log = codes "log"

-- the number of a cause of refusal, as it is printed
abbrev pub cause_number : Cause → ℕ
cause_number cause.NotToml = 1
cause_number cause.UnknownKey = 2
cause_number cause.MissingKey = 3
cause_number cause.WrongKind = 4
cause_number cause.BadAddress = 5
cause_number cause.BadRange = 6
cause_number cause.Duplicate = 7
cause_number cause.TooMany = 8
cause_number cause.Version = 9
cause_number cause.UnknownSet = 10

-- a refusal as it is printed
abbrev pub refusal_text : PolicyRefusal → List ℕ
refusal_text r =
    decimal r.number ++ (codes " " ++ (key_text r.key ++ (codes " asset " ++ (decimal r.asset ++ (codes " rule " ++ decimal r.rule)))))
