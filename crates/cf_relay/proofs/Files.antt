-- What a desk over a log tells, as what stands in the file.
use Rattle.cf_lane.specs.Caller.{newcomer, none_before}
use Rattle.std.proofs.Common.{Bool, Err, List, None, Ok, Result, Some, ap, drop, false, inl, inr, length, refl, subst, sym, take, true, ℕ, ◌&&◌, ◌++◌, ◌+◌, ◌<◌, ◌∙◌, ◌∷◌, ◌≡◌, ◌⊎◌, not, []}
use Rattle.std.specs.List.{concat}
use Rattle.std.proofs.Math.Seq.{take-append-add}
use Rattle.std.proofs.lemmas.List.{take-append-drop}
use Rattle.std.proofs.lemmas.List.Folds.{concat-append}
use Rattle.std.proofs.lemmas.Option.{same_Some}
use Rattle.cf_lane.specs.Log.{with_lines}
use Rattle.cf_outside.proofs.Lines.{file_lines-whole, lines_from-rest}
use Rattle.cf_outside.specs.Files.{Content, IsPartly, absent, content_after_create, content_after_write, holds, untold}
use Rattle.cf_outside.specs.Lines.{ends_with_line, file_lines, file_part, lines_from, rest_from}
use Rattle.cf_outside.specs.Pair.{Entry}
use Rattle.cf_policy.specs.Site.{SiteValue}
use Rattle.cf_relay.proofs.Starting.{empty_judged, relayed_none}
use Rattle.cf_relay.specs.Closing.{BeginsLines}
use Rattle.cf_relay.specs.Ends.{EndsAs, IsMemoryEnd, IsFileTold, IsWriteEnd, LogContents, RelayEnds, file_log}
use Rattle.cf_relay.specs.declared.directions.Directions.TheVariants as both
use Rattle.cf_relay.specs.declared.done.RelayDone.{RelayDone}
use Rattle.cf_relay.specs.declared.done.RelayEnd.{RelayEnd}
use Rattle.cf_relay.specs.declared.done.RelayEnd.TheVariants as ends
use Rattle.cf_relay.specs.declared.done.RelayFault.{RelayFault}
use Rattle.cf_relay.specs.declared.done.RelayFault.TheVariants as fault

-- ---- another log

module _ (site : SiteValue) (listen most : ℕ) (P Q : LogContents) (es : List Entry) (all : (ls : List (List ℕ)) → P.Holds ls → Q.Holds ls) (some : (ls : List (List ℕ)) → P.Begins ls → Q.Begins ls) where
  end_over : (done : RelayDone) (end : RelayEnd) → EndsAs site listen most P es done end → EndsAs site listen most Q es done end
  end_over done ends.Done h = search all
  end_over done ends.IdleEnd h = search all
  end_over done (ends.Cut reason) h = search all

  memory_over : (same : Type 0) → IsMemoryEnd site listen (P.Holds []) ⊥ es → IsMemoryEnd site listen (Q.Holds []) same es
  memory_over same (inl none) = absurd none.1
  memory_over same (inr (met, created)) = inr (met, all [] created)

  pub ends_over : (same : Type 0) (r : Result RelayDone RelayFault) → RelayEnds site listen most P ⊥ es r → RelayEnds site listen most Q same es r
  ends_over same (Ok done) h = end_over done done.end h
  ends_over same (Err fault.Link) h = search all
  ends_over same (Err fault.Write) h = search some
  ends_over same (Err fault.NoMemory) h = memory_over same h

-- ---- the file

some_none : {A : Type 0} {B : Type 0} (x : A) → None ≡ Some x → B
some_none x e = cc

told_lines : (new : Content) (ls : List (List ℕ)) → file_lines new ≡ Some ls → (bytes : List ℕ) × (new ≡ holds bytes) × (lines_from [] bytes ≡ ls)
told_lines untold ls e = some_none ls e
told_lines absent ls e = some_none ls e
told_lines (holds bytes) ls e = (bytes, refl, same_Some _ _ e)

created_lines : (first : Content) (ls : List (List ℕ)) → IsFileTold first → with_lines (file_lines (content_after_create first)) ls ≡ Some ls
created_lines untold ls told = absurd told
created_lines absent ls told = refl
created_lines (holds bytes) ls told = refl

created_write : (first : Content) (bytes : List ℕ) → IsFileTold first → content_after_write first bytes ≡ holds bytes
created_write untold bytes told = absurd told
created_write absent bytes told = refl
created_write (holds all) bytes told = refl

lines_now : (first old new : Content) (ls : List (List ℕ)) → old ≡ content_after_create first → file_lines new ≡ with_lines (file_lines old) ls → IsFileTold first → file_lines new ≡ Some ls
lines_now first old new ls created e told = e ∙ ap (λ x. with_lines (file_lines x) ls) created ∙ created_lines first ls told

pub holds_file : (first old new : Content) (ls : List (List ℕ)) → old ≡ content_after_create first → file_lines new ≡ with_lines (file_lines old) ls → ends_with_line new ≡ true → IsFileTold first →
    new ≡ content_after_write first (concat ls)
holds_file first old new ls created e whole told = file_lines-whole new ls (lines_now first old new ls created e told) whole ∙ sym (created_write first (concat ls) told)

concat_split : (n : ℕ) (ls : List (List ℕ)) → concat ls ≡ concat (take n ls) ++ concat (drop n ls)
concat_split n ls = ap concat (sym (take-append-drop n ls)) ∙ concat-append (take n ls) (drop n ls)

pub begins_file : (first old new : Content) (ls : List (List ℕ)) → old ≡ content_after_create first → BeginsLines (file_lines old) (file_lines new) (file_part new) ls → IsFileTold first → IsPartly (concat ls) first new
begins_file first old new ls created (count, some, e, d) told =
    let f = told_lines new (take count ls) (lines_now first old new (take count ls) created e told) in
    let rest : rest_from [] f.0 ≡ take some (concat (drop count ls)) = ap file_part (sym f.1) ∙ d in
    let whole : f.0 ≡ concat (take count ls) ++ take some (concat (drop count ls)) =
    sym (lines_from-rest [] f.0) ∙ ap (λ zs. concat zs ++ rest_from [] f.0) f.2 ∙ ap (λ xs. concat (take count ls) ++ xs) rest in
    let part : f.0 ≡ take (length (concat (take count ls)) + some) (concat ls) =
    whole ∙ sym (take-append-add (concat (take count ls)) (concat (drop count ls)) some) ∙ ap (take (length (concat (take count ls)) + some)) (sym (concat_split count ls)) in
    inr (length (concat (take count ls)) + some, f.1 ∙ ap holds part ∙ sym (created_write first (take (length (concat (take count ls)) + some) (concat ls)) told))

pub both_true : (a b : Bool) → (not a && b) ≡ true → b ≡ true
both_true true b e = cc
both_true false b e = e

cons_head : (x y : List ℕ) → (let l : List (List ℕ) = x ∷ [] in l) ≡ y ∷ [] → x ≡ y
cons_head x y e = cc

-- what stands in a file after the last write through a lent reference
pub last_content : {F : Type 0} (content : F → List ℕ → Content) (x now : F) (log log' : List ℕ) (P : Content → Type 0) → x ≡ now → (let l : List (List ℕ) = log' ∷ [] in l) ≡ log ∷ [] → P (content now log') → P (content x log)
last_content content x now log log' P last name p =
    subst (λ z. P (content z log)) (sym last) (subst (λ n. P (content now n)) (cons_head log' log name) p)

-- the creation failed
created_empty : (first : Content) → content_after_create first ≡ content_after_write first []
created_empty untold = refl
created_empty absent = refl
created_empty (holds all) = refl

partly_empty : (first new : Content) → (new ≡ first) ⊎ (new ≡ content_after_create first) → IsPartly [] first new
partly_empty first new (inl same) = inl same
partly_empty first new (inr created) = inr (0, created ∙ created_empty first)

pub write_first : (site : SiteValue) (listen most : ℕ) (first new : Content) → 0 < most → (new ≡ first) ⊎ (new ≡ content_after_create first) → IsWriteEnd both.Together site none_before listen most (file_log first new) []
write_first site listen most first new few either = record {
  relayed = relayed_none site none_before listen most few both.Together;
  history = [];
  is_short = inl refl;
  judged = [];
  are_judged = empty_judged site (newcomer 0);
  prefixes = λ s. ([], refl);
  last = [];
  is_last = inl refl;
  begins = λ told. partly_empty first new either;
}

-- the same log, and nothing is known of want of memory
pub ends_same : (site : SiteValue) (listen m n : ℕ) (log : LogContents) (es : List Entry) (same : Type 0) (r : Result RelayDone RelayFault) → m ≡ n → RelayEnds site listen m log ⊥ es r → RelayEnds site listen n log same es r
ends_same site listen m n log es same r e h = subst (λ (k : ℕ). RelayEnds site listen k log same es r) e (ends_over site listen m log log es (λ ls h. h) (λ ls h. h) same r h)
