-- What a client's fragment says: `read_octets`. IEEE 1815-2012, sections 4.2 and 4.4. Which requests are served is this project's
-- own.
use Rattle.std.specs.Prelude.{◌≡◌, ℕ, ◌≤◌, ◌==◌, ◌||◌, nat_lt, if◌then◌else◌, not, Bool, true, List, ◌∷◌, length, drop, slice_index, Result}
use Rattle.std.specs.Prelude.{Ok, Err}
use Rattle.std.specs.List.{AllByRecursion, concat}
use Rattle.cf_dnpobj.specs.declared.fragment.Fragment.{Fragment}
use Rattle.cf_dnpobj.specs.declared.fragment.FragmentRefusal.{FragmentRefusal}
use Rattle.cf_dnpobj.specs.declared.fragment.FragmentRefusal.TheVariants as refusal
use Rattle.cf_dnpobj.specs.Objects.{is_function, is_command, is_write}
use Rattle.cf_dnpobj.specs.Headers.{IsHeader, headers_in}

-- a fragment without where it lies in memory
pub record FragmentValue : Type 0 where
  pub control : ℕ
  pub code : ℕ
  pub objects : List ℕ

-- what a contract sees of a `Fragment`
abbrev pub fragment_value : Fragment → FragmentValue
fragment_value f = record { control = f.control; code = f.code; objects = f.objects.bytes }

-- an answer, with the fragment as a contract sees it
abbrev pub fragment_answer : Result Fragment FragmentRefusal → Result FragmentValue FragmentRefusal
fragment_answer (Ok f) = Ok (fragment_value f)
fragment_answer (Err e) = Err e

-- the number of headers that a code may have: a confirmation none, a command and a write one at least
abbrev pub takes_headers : ℕ → ℕ → Bool
takes_headers code n = if code == 0 then n == 0 else (if is_command code || is_write code then nat_lt 0 n else true)

-- the number of headers
abbrev pub counted : Result (List (List ℕ)) FragmentRefusal → Result ℕ FragmentRefusal
counted (Ok hs) = Ok (length hs)
counted (Err e) = Err e

-- the fragment, where its code may have so many headers
abbrev pub with_headers : List ℕ → Result ℕ FragmentRefusal → Result FragmentValue FragmentRefusal
with_headers octets (Err e) = Err e
with_headers octets (Ok n) =
    if takes_headers (slice_index octets 1) n
    then Ok (record { control = slice_index octets 0; code = slice_index octets 1; objects = drop 2 octets })
    else Err refusal.Parameter

-- the fragment that octets are, or the first refusal. FIR is 80 and FIN 40 of the first octet
abbrev pub read_octets : List ℕ → Result FragmentValue FragmentRefusal
read_octets octets =
    if nat_lt (length octets) 2 then Err refusal.Short else
    (if nat_lt (slice_index octets 0) 0xc0 then Err refusal.NotSingle else
    (if not (is_function (slice_index octets 1)) then Err refusal.Function else
    with_headers octets (counted (headers_in (slice_index octets 1) (drop 2 octets)))))

-- the octets are this request: FIR and FIN, a function code that is served, and headers with their objects, one after the
-- other, as many as the code takes
pub record SpellsRequest (f : FragmentValue) (octets : List ℕ) : Type 0 where
  pub single : 0xc0 ≤ f.control
  pub function : is_function f.code ≡ true
  pub headers : List (List ℕ)
  pub are : AllByRecursion (IsHeader f.code) headers
  pub taken : takes_headers f.code (length headers) ≡ true
  pub objects : f.objects ≡ concat headers
  pub spelled : octets ≡ f.control ∷ f.code ∷ f.objects

-- the codes that are answered: all but confirm and the three without reply
abbrev pub wants_reply : ℕ → Bool
wants_reply code = not ((code == 0) || ((code == 6) || ((code == 8) || (code == 10))))
