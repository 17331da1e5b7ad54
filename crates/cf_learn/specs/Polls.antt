-- Steps of the proof: requests of Modbus and fragments of DNP3 all acts of which were gathered: AreGathered.
use Rattle.std.specs.Prelude.{◌≡◌, ◌≢◌, ℕ, List, ◌∷◌, All, Contains, Ok}
use Rattle.cf_dnpobj.specs.Acts as fragment_acts
use Rattle.cf_dnpobj.specs.Fragment.{FragmentValue, read_octets}
use Rattle.cf_modbus.specs.Request.{RequestValue, Reads}
use Rattle.cf_modbus.specs.Acts.{acts}
use Rattle.cf_view.specs.declared.Act.{Act}
use Rattle.cf_learn.specs.Seen.{seen_of}
use Rattle.cf_learn.specs.declared.polls.Asked.{Asked}
use Rattle.cf_learn.specs.declared.polls.Poll.{Poll}
use Rattle.cf_learn.specs.declared.polls.Polls.{Polls}
use Rattle.cf_learn.specs.declared.seen.Seen.{Seen}

-- each act of the client's request with this PDU, if it is one, is there
abbrev pub HasAll : List Seen → (client : ℕ) → (pdu : List ℕ) → Type 0
HasAll seen client pdu = (r : RequestValue) (act : Act) → Reads (Ok r) pdu → Contains (acts r) act → Contains seen (seen_of client act)

-- each act of each of the requests is there
abbrev pub HaveRequests : List Seen → List Poll → Type 0
HaveRequests seen polls = All (λ poll. HasAll seen poll.client poll.pdu.now) polls

-- each act of the client's fragment, if it is a command, is there
abbrev pub HasFragment : List Seen → (client : ℕ) → (octets : List ℕ) → Type 0
HasFragment seen client octets = (f : FragmentValue) (act : Act) → read_octets octets ≡ Ok f → f.code ≢ 0
    → Contains (fragment_acts.acts f) act → Contains seen (seen_of client act)

-- so it is with whatever application control octet before these
abbrev pub HasBehind : List Seen → (client : ℕ) → (behind : List ℕ) → Type 0
HasBehind seen client behind = (control : ℕ) → HasFragment seen client (control ∷ behind)

-- each act of each of the fragments is there
abbrev pub HaveFragments : List Seen → List Asked → Type 0
HaveFragments seen fragments = All (λ asked. HasBehind seen asked.client asked.octets.items) fragments

-- each act of each of the requests and of the fragments is there
pub record AreGathered (seen : List Seen) (polls : Polls) : Type 0 where
  pub requests : HaveRequests seen polls.places.items
  pub fragments : HaveFragments seen polls.fragments.items
