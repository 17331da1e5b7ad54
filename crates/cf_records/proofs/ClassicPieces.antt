-- What stands at a place of a classic file, read in two parts: the head of the record there, and then the record.
use Rattle.std.proofs.Common.{◌≡◌, ℕ, ◌+◌, ◌-◌, ◌^◌, ◌≤◌, Bool, List, length, take, drop, slice_range, refl, sym, ap, ◌∙◌, arith}
use Rattle.std.proofs.lemmas.List.{get_or-take, length-take, drop-take, take_all}
use Rattle.std.proofs.lemmas.Bool.Decides.{nat_tests}
use Rattle.cf_pcap.specs.declared.header.Header.{Header}
use Rattle.cf_pcap.specs.Header.{u32_at}
use Rattle.cf_pcap.specs.Record.{Need, TooLong as NotAllowed, Whole, captured_at, record_of, stamp_at}
use Rattle.cf_records.specs.Capture.{AtPlace, Cut, Fits, classic_at}
use Rattle.cf_records.specs.Pieces.{HeadFits}

pub u32_front : (big : Bool) (xs : List ℕ) (m i : ℕ) → i + 4 ≤ m → u32_at big (take m xs) i ≡ u32_at big xs i
u32_front big xs m i l =
    let a = get_or-take m xs i 0 (omega arith) in
    let b = get_or-take m xs (i + 1) 0 (omega arith) in
    let c = get_or-take m xs (i + 2) 0 (omega arith) in
    let d = get_or-take m xs (i + 2 + 1) 0 (omega arith) in
    rw (a, b, c, d) refl

captured_front : (h : Header) (xs : List ℕ) (m : ℕ) → 16 ≤ m → captured_at h (take m xs) ≡ captured_at h xs
captured_front h xs m l = u32_front h.big_endian xs m 8 (omega arith)

stamp_front : (h : Header) (xs : List ℕ) (m : ℕ) → 16 ≤ m → stamp_at h (take m xs) ≡ stamp_at h xs
stamp_front h xs m l = rw (u32_front h.big_endian xs m 0 (omega arith), u32_front h.big_endian xs m 4 (omega arith)) refl

body_front : (xs : List ℕ) (size : ℕ) → 16 ≤ size → slice_range (take size xs) 16 size ≡ slice_range xs 16 size
body_front xs size l =
    let is : size ≡ 16 + (size - 16) = omega arith in
    ap (λ n. take (size - 16) (drop 16 (take n xs))) is ∙ ap (take (size - 16)) (drop-take 16 (size - 16) xs)
    ∙ take_all (size - 16) (take (size - 16) (drop 16 xs)) (omega (arith, length-take (size - 16) (drop 16 xs)))

-- what a whole record says
whole_is : (h : Header) (octets : List ℕ) (stamp used : ℕ) (body : List ℕ) → Whole stamp body used ≡ record_of h octets →
    (stamp ≡ stamp_at h octets) × (used ≡ 16 + captured_at h octets) × (used ≤ length octets)
whole_is h octets stamp used body e = grind (arith, nat_tests)

module _ (h : Header) (place size : ℕ) (all octets : List ℕ) (fits : HeadFits h place all size) (e : octets ≡ take size all) (near : place + length octets ≤ 2 ^ 40) where
  captured : captured_at h octets ≡ captured_at h all
  captured = ap (captured_at h) e ∙ captured_front h all size (omega (arith, fits.told))

  pub cut_need : (count : ℕ) → Need count ≡ record_of h octets → classic_at h place all ≡ Cut
  cut_need count is =
      let long = ap length e ∙ length-take size all in
      let told = fits.told in
      let some = fits.long in
      let allowed = fits.allowed in
      let head = fits.near in
      grind (arith, nat_tests, long, told, some, captured, allowed, head)

  pub never_long : NotAllowed ≡ record_of h octets → ⊥
  never_long is =
      let told = fits.told in
      let allowed = fits.allowed in
      grind (arith, nat_tests, told, captured, allowed)

  pub fits_whole : (stamp used : ℕ) (body : List ℕ) → Whole stamp body used ≡ record_of h octets →
      classic_at h place all ≡ Fits (record { stamp = stamp; link = h.link; body = slice_range octets 16 used }) used
  fits_whole stamp used body is =
      let (stamped, sized, inside) = whole_is h octets stamp used body is in
      let long = ap length e ∙ length-take size all in
      let told = fits.told in
      let some = fits.long in
      let wide : 16 ≤ size = omega (arith, told) in
      let allowed = fits.allowed in
      let head = fits.near in
      let same : used ≡ size = omega (arith, sized, captured, told) in
      let there : size ≤ length all = omega (arith, same, inside, long) in
      let whole : classic_at h place all ≡ Fits (record { stamp = stamp_at h all; link = h.link; body = slice_range all 16 (16 + captured_at h all) }) (16 + captured_at h all) =
      grind (arith, nat_tests, long, told, some, allowed, head, there, near) in
      let moment : stamp_at h all ≡ stamp = sym (stamp_front h all size wide) ∙ ap (stamp_at h) (sym e) ∙ sym stamped in
      let found : ℕ → ℕ → List ℕ → AtPlace = λ s n b. Fits (record { stamp = s; link = h.link; body = b }) n in
      whole ∙ ap (λ s. found s (16 + captured_at h all) (slice_range all 16 (16 + captured_at h all))) moment
      ∙ ap (λ n. found stamp n (slice_range all 16 n)) (sym told)
      ∙ ap (found stamp size) (sym (body_front all size wide) ∙ ap (λ o. slice_range o 16 size) (sym e))
      ∙ ap (λ n. found stamp n (slice_range octets 16 n)) (sym same)
