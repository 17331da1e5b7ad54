use Rattle.std.proofs.Common.{rules, ◌≡◌, ◌∙◌, ◌+◌, ◌^◌, ◌++◌, ◌∷◌, [], ℕ, List, Some, option_map, length, subst, sym, ap, append_assoc, arith, length-append}
use Rattle.cf_stream.specs.Stream.{Byte}
use Rattle.cf_watch.specs.Kept.{kept, letter_value, with_gone}
use Rattle.cf_watch.specs.Stretches.{FirstLetter}
use Rattle.cf_watch.proofs.Taking.{grows_both, knows_on}
use Rattle.cf_watch.proofs.carry.advance.Goals as goal

pub bytes-preserved : goal.bytes-preserved
bytes-preserved c =
    let flow = c.bytes.flow in
    let new = c.push.new.flow in
    let byte = c.in-Some-Byte.byte in
    let ahead = c.args.ahead.now in
    let value : Some (letter_value c.in-Some-Byte.field-0) ≡ Some (Byte byte) = search rules in
    record {
      knows = λ gone size p.
          let front = gone ++ flow.bytes.items in
          let place : c.reached.result ≡ length front = c.reached.ensures ∙ omega (arith, size, length-append gone flow.bytes.items) in
          let was : option_map (λ (k : FirstLetter). k.letter) (kept ahead (length front + 2 ^ 31)) ≡ Some (Byte byte) =
          subst (λ (n : ℕ). option_map (λ (k : FirstLetter). k.letter) (kept ahead (n + 2 ^ 31)) ≡ Some (Byte byte)) place (sym c.in-Some-Byte.ensures ∙ value) in
          let more : gone ++ new.bytes.items ≡ front ++ byte ∷ [] =
          ap (λ (xs : List ℕ). gone ++ xs) c.in_ok-push-in-Some-Byte.ensures.bytes ∙ sym (append_assoc gone flow.bytes.items (byte ∷ [])) in
          knows_on front (gone ++ new.bytes.items) byte ahead more was p ∙ c.bytes.invariant.knows gone size p;
      grows = λ gone gone_born.
          grows_both c.args.number (with_gone gone gone_born c.args.flow.now) (with_gone gone gone_born flow) (with_gone gone gone_born new) (c.bytes.invariant.grows gone gone_born)
          (c.in_ok-push-in-Some-Byte.ensures.grows gone gone_born);
      conflict = c.push.ensures.conflict ∙ c.bytes.invariant.conflict;
    }
