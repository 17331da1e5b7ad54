-- The frames by places are those that are spelled.
use Rattle.std.proofs.Common.{◌≡◌, ℕ, zero, suc, ◌+◌, ◌-◌, ◌*◌, ◌/◌, ◌<◌, ◌≤◌, min, List, length, take, drop, get_or, refl, sym, ◌∙◌, ap, arith}
use Rattle.cf_view.specs.Framing.{Frames, IsPrefixFree, HasFront}
use Rattle.cf_view.specs.declared.Framed.{Framed}
use Rattle.cf_view.specs.declared.Framed.TheVariants as framed
use Rattle.cf_view.specs.Octets.{IsOctets}
use Rattle.cf_view.proofs.OctetLists.{IsOctets-take, IsOctets-drop, IsOctets-append}
use Rattle.cf_view.proofs.Places.{begins_too, partial_too, breaks_too, free_too, front_too}
use Rattle.cf_dnplink.specs.LinkFrame.{FrameValue, frame_value, SpellsFrame, IsFrame, frame_with, frame_break, blocks_of}
use Rattle.cf_dnplink.specs.FramePlaces.{SpellsByPlaces}
use Rattle.cf_dnplink.specs.UserOctets.{user_by, user_of}
use Rattle.cf_dnplink.specs.declared.frame.Frame.{Frame}
use Rattle.cf_dnplink.proofs.FramePlaces.{frames_free, frame_front}
use Rattle.cf_dnplink.proofs.Writing.{is_spelled, length-blocks_by}
use Rattle.cf_dnplink.proofs.Blocks.{user_at}
use Rattle.cf_dnplink.proofs.Reading.{frame_written, user_fits, user_again}

octets_user : (n : ℕ) (blocks : List ℕ) → IsOctets blocks → IsOctets (user_by n blocks)
unfolding user_by
octets_user zero blocks o = λ i. omega arith
octets_user (suc n) blocks o =
    IsOctets-append (take (min 16 (length blocks - 2)) blocks) (user_by n (drop 18 blocks)) (IsOctets-take blocks (min 16 (length blocks - 2)) o) (octets_user n (drop 18 blocks) (IsOctets-drop blocks 18 o))

pub to_spelled : (f : FrameValue) (xs : List ℕ) → SpellsByPlaces f xs → SpellsFrame f xs
to_spelled f xs h =
    (let e = h.fields in
    let o = h.unit.octets_are in
    let fits = user_fits f xs h in
    let written = frame_written f xs h in
    record {
      user = user_of f.blocks;
      control = rw e (o 3);
      dest = rw e (omega (arith, o 4, o 5));
      source = rw e (omega (arith, o 6, o 7));
      user_octets = rw e (octets_user ((length (drop 10 xs) + 17) / 18) (drop 10 xs) (IsOctets-drop xs 10 o));
      at_most = fits.0;
      blocks = sym fits.1;
      spelled = written;
    })

same_frame : (f : FrameValue) (user : List ℕ) → f.blocks ≡ blocks_of user → f ≡ frame_with f.control f.dest f.source user
same_frame f user e = rw (← e) refl

pub to_places : (f : FrameValue) (xs : List ℕ) → SpellsFrame f xs → SpellsByPlaces f xs
to_places f xs h =
    rw (same_frame f h.user h.blocks, h.spelled) (is_spelled f.control f.dest f.source h.user h.control h.dest h.source h.user_octets h.at_most)

pub spelled_free : IsPrefixFree SpellsFrame
spelled_free = free_too SpellsByPlaces SpellsFrame to_spelled to_places frames_free

pub spelled_front : (xs : List ℕ) → IsOctets xs → HasFront SpellsFrame xs
spelled_front xs o = front_too SpellsByPlaces SpellsFrame to_spelled to_places xs (frame_front xs o)

pub spelled_answer : (r : Framed Frame) (xs : List ℕ) → Frames SpellsByPlaces frame_break frame_value r xs → Frames SpellsFrame frame_break frame_value r xs
spelled_answer (framed.Unit x used) xs h = begins_too SpellsByPlaces SpellsFrame to_spelled to_places xs (frame_value x) used h
spelled_answer framed.More xs h = partial_too SpellsByPlaces SpellsFrame to_spelled to_places xs h
spelled_answer (framed.Broken b) xs h = (h.0, breaks_too SpellsByPlaces SpellsFrame to_spelled to_places xs h.0 h.1, h.2)

-- the user octets of a frame are those that were spelled
pub user_is : (f : FrameValue) (h : IsFrame f) → user_of f.blocks ≡ h.1.user
user_is f h = ap user_of h.1.blocks ∙ user_again h.1.user

pub user_sizes : (f : FrameValue) → IsFrame f → (length f.blocks ≡ length (user_of f.blocks) + 2 * ((length (user_of f.blocks) + 15) / 16)) × (length (user_of f.blocks) ≤ 250)
user_sizes f h =
    let user = h.1.user in
    let blocks = ap length h.1.blocks ∙ length-blocks_by ((length user + 15) / 16) user refl in
    let same = ap length (user_is f h) in
    let most = h.1.at_most in
    (omega (arith, blocks, same), omega (arith, same, most))

pub user_place : (f : FrameValue) → IsFrame f → (i : ℕ) → i < length (user_of f.blocks) → get_or f.blocks (i + i / 16 * 2) 0 ≡ get_or (user_of f.blocks) i 0
user_place f h i l =
    let same = user_is f h in
    ap (λ (xs : List ℕ). get_or xs (i + i / 16 * 2) 0) h.1.blocks
    ∙ user_at i h.1.user (omega (arith, ap length same, l))
    ∙ ap (λ (xs : List ℕ). get_or xs i 0) (sym same)
