-- The reply to a refused request: `reply`. Its bits are this project's own choice; its form is that of a response, IEEE 1815-2012,
-- section 4.2, and of the objects of select and operate, which a response repeats with a status.
use Rattle.std.specs.Prelude.{ℕ, ◌+◌, ◌-◌, ◌%◌, ◌==◌, ◌&&◌, nat_le, Bool, if◌then◌else◌, List, [], ◌∷◌, length, map, slice_index, Result}
use Rattle.std.specs.Prelude.{Ok, Err}
use Rattle.std.specs.List.{flat_map, range_with_len}
use Rattle.cf_view.specs.declared.Reason.{Reason}
use Rattle.cf_view.specs.declared.Reason.TheVariants as reason_
use Rattle.cf_dnpobj.specs.declared.fragment.FragmentRefusal.{FragmentRefusal}
use Rattle.cf_dnpobj.specs.Objects.{range_size}
use Rattle.cf_dnpobj.specs.Headers.{headers_in}
use Rattle.cf_dnpobj.specs.Fragment.{FragmentValue, read_octets}
use Rattle.cf_dnpobj.specs.Acts.{each}

-- the second octet of internal indications; a request for another station is never answered
abbrev pub indication_of : Reason → ℕ
indication_of reason_.Function = 0x01
indication_of reason_.Point = 0x02
indication_of reason_.Value = 0x04
indication_of reason_.Station = 0x00

-- the last octet of each object is its status
abbrev pub is_status : ℕ → List ℕ → ℕ → Bool
is_status code h place =
    let objects = 3 + range_size (slice_index h 2) in
    nat_le objects place && ((place - objects) % each code h == each code h - 1)

-- an octet of a header whose objects have status 09, not authorized
abbrev pub refused_octet : ℕ → List ℕ → ℕ → ℕ
refused_octet code h place = if is_status code h place then 0x09 else slice_index h place

-- a header whose objects have status 09
abbrev pub refused : ℕ → List ℕ → List ℕ
refused code h = map (refused_octet code h) (range_with_len 0 (length h))

-- all headers with their objects refused
abbrev pub refused_objects : ℕ → Result (List (List ℕ)) FragmentRefusal → List ℕ
refused_objects code (Ok hs) = flat_map (refused code) hs
refused_objects code (Err e) = []

-- select, operate and direct operate are answered with their objects, every other request with its reason
abbrev pub answers_objects : ℕ → Bool
answers_objects code = nat_le 3 code && nat_le code 5

-- the reply from the second octet of internal indications on
abbrev pub body : Result FragmentValue FragmentRefusal → Reason → List ℕ
body (Ok f) reason =
    if answers_objects f.code then 0x00 ∷ refused_objects f.code (headers_in f.code f.objects) else indication_of reason ∷ []
body (Err e) reason = indication_of reason ∷ []

-- the reply: FIR and FIN with the sequence of the request, function 81, the internal indications, and the objects
abbrev pub reply : List ℕ → Reason → List ℕ
reply octets reason = (0xc0 + slice_index octets 0 % 16) ∷ 0x81 ∷ 0x00 ∷ body (read_octets octets) reason
