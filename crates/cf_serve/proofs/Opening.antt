-- The places that were opened, one after the other.
use Rattle.std.proofs.Common.{List, Option, Some, ap, arith, inl, length, refl, sym, ℕ, ◌++◌, ◌+◌, ◌∙◌, ◌∷◌, ◌≡◌, []}
use Rattle.std.specs.Prelude.{option_map, slice_get}
use Rattle.std.proofs.lemmas.List.{length-append}
use Rattle.std.proofs.lemmas.Option.{same_Some}
use Rattle.cf_audit.specs.Line.{Listen}
use Rattle.cf_lane.specs.Handled.{MayHaveMore}
use Rattle.cf_lane.specs.Log.{line_about, with_lines}
use Rattle.cf_links.specs.Links.{LinksEntry, Opened}
use Rattle.cf_relay.proofs.Lined.{lines_none}
use Rattle.cf_serve.proofs.Missing.{begins_line}
use Rattle.cf_serve.proofs.Rounding.{more_none, more_twice}
use Rattle.cf_serve.specs.Broken.{Breaks}
use Rattle.cf_serve.specs.Served.{OpensDo, listen_lines, opened_from}
use Rattle.cf_serve.specs.declared.table.Place.{Place}

opened_more : (n : ℕ) (ms : List ℕ) (m : ℕ) → opened_from n (ms ++ m ∷ []) ≡ opened_from n ms ++ Opened (n + length ms) m ∷ []
opened_more n [] m = ap (λ k. Opened k m ∷ []) (omega arith)
opened_more n (x ∷ ms) m = ap (λ es. Opened n x ∷ es) (opened_more (n + 1) ms m ∙ ap (λ k. opened_from (n + 1) ms ++ Opened k m ∷ []) (omega arith))

no_lines : (places : List Place) → listen_lines places [] ≡ []
no_lines [] = refl
no_lines (p ∷ places) = refl

lines_more : (places : List Place) (ms : List ℕ) (m : ℕ) (p : Place) → slice_get places (length ms) ≡ Some p →
    listen_lines places (ms ++ m ∷ []) ≡ listen_lines places ms ++ line_about p.site.first p.at m Listen ∷ []
lines_more [] ms m p e = cc
lines_more (q ∷ places) [] m p e =
    let same : q ≡ p = same_Some q p e in
    ap (λ (x : Place). line_about x.site.first x.at m Listen ∷ listen_lines places []) same ∙ ap (λ ls. line_about p.site.first p.at m Listen ∷ ls) (no_lines places)
lines_more (q ∷ places) (x ∷ ms) m p e = ap (λ ls. line_about q.site.first q.at x Listen ∷ ls) (lines_more places ms m p e)

pub opens_none : (places : List Place) (told : Option (List LinksEntry)) (log : Option (List (List ℕ))) → OpensDo places 0 told told log log
opens_none places told log = record {
  moments = [];
  all = refl;
  tells = more_none told;
  added = lines_none log ∙ ap (with_lines log) (sym (no_lines places));
}

-- one more was told
told_opened : (n m : ℕ) (ms : List ℕ) (told told1 told2 : Option (List LinksEntry)) → length ms ≡ n → told1 ≡ option_map (λ es. es ++ opened_from 0 ms) told →
    told2 ≡ option_map (λ es. es ++ Opened n m ∷ []) told1 → told2 ≡ option_map (λ es. es ++ opened_from 0 (ms ++ m ∷ [])) told
told_opened n m ms told told1 told2 all o e =
    e ∙ ap (option_map (λ es. es ++ Opened n m ∷ [])) o ∙ more_twice told (opened_from 0 ms) (Opened n m ∷ [])
    ∙ ap (λ (xs : List LinksEntry). option_map (λ es. es ++ xs) told) (ap (λ k. opened_from 0 ms ++ Opened k m ∷ []) (sym all ∙ omega arith) ∙ sym (opened_more 0 ms m))

pub opens_more : (places : List Place) (n : ℕ) (told told1 told2 : Option (List LinksEntry)) (log log1 log2 : Option (List (List ℕ))) (m : ℕ) (p : Place) →
    slice_get places n ≡ Some p → OpensDo places n told told1 log log1 → told2 ≡ option_map (λ es. es ++ Opened n m ∷ []) told1 →
    log2 ≡ with_lines log1 (line_about p.site.first p.at m Listen ∷ []) → OpensDo places (n + 1) told told2 log log2
opens_more places n told told1 told2 log log1 log2 m p at o e f = record {
  moments = o.moments ++ m ∷ [];
  all = length-append o.moments (m ∷ []) ∙ ap (λ k. k + 1) o.all;
  tells = told_opened n m o.moments told told1 told2 o.all o.tells e;
  added = simp (f, o.added, more_twice, lines_more places o.moments m p (ap (slice_get places) o.all ∙ at));
}

-- the line of a place failed
pub opens_missed : (places : List Place) (most n : ℕ) (told told1 told2 : Option (List LinksEntry)) (log log1 log2 : Option (List (List ℕ))) (part : List ℕ) (m : ℕ) (p : Place) →
    slice_get places n ≡ Some p → OpensDo places n told told1 log log1 → told2 ≡ option_map (λ es. es ++ Opened n m ∷ []) told1 →
    MayHaveMore (line_about p.site.first p.at m Listen ∷ []) log1 log2 part → Breaks places most told told2 log log2 part
opens_missed places most n told told1 told2 log log1 log2 part m p at o e may =
    let w = begins_line (line_about p.site.first p.at m Listen) log1 log2 part may in (
      opened_from 0 (o.moments ++ m ∷ []),
      (
        listen_lines places o.moments ++ w.0,
        (
          told_opened n m o.moments told told1 told2 o.all o.tells e,
          (
            simp (w.1.0, o.added, more_twice),
            inl (record {
              moments = o.moments;
              place = p;
              is_next = ap (slice_get places) o.all ∙ at;
              moment = m;
              told = refl;
              whole = w.0;
              logged = refl;
              begins = w.1.1;
            }),
          ),
        ),
      ),
    )
