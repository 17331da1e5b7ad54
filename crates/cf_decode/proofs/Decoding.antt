-- What the front of spelled units decodes to, for any grammar.
use Rattle.std.proofs.Common.{List, [], ap, append_assoc, arith, inl, inr, length, refl, subst, sym, ℕ, ◌++◌, ◌<◌, ◌∙◌, ◌∷◌, ◌≡◌}
use Rattle.cf_decode.proofs.Common.{AllByRecursion, flat_map, flat_map-cons}
use Rattle.cf_decode.specs.Laws.{IsOfNext}
use Rattle.cf_dnptrans.proofs.Seams.{split_front}
use Rattle.cf_view.specs.Framing.{IsPartial}
use Rattle.cf_view.specs.Units.{BeginsWithUnits, IsUnitsThenRest}
use Rattle.std.proofs.Math.Seq.{drop-append_seam, take-append_seam}
use Rattle.std.proofs.lemmas.Bool.{cases_lt}
use Rattle.std.proofs.lemmas.List.{length-append}

-- the units of bytes are the first of these, and the rest is of the next one
pub record Decoded {U : Type 0} (Spells : U → List ℕ → Type 0) (spell : U → List ℕ) (sent : List U) (bytes : List ℕ) : Type 0 where
  pub units : List U
  pub rest : List ℕ
  pub are_units : IsUnitsThenRest Spells units bytes rest
  pub following : List U
  pub are_first : sent ≡ units ++ following
  pub of_next : IsOfNext spell following rest
  pub are : bytes ≡ flat_map spell units ++ rest

module _ {U : Type 0} (Spells : U → List ℕ → Type 0) (spell : U → List ℕ) (some : IsPartial Spells []) where
  -- one more unit in front
  decodes_more : (u : U) (us : List U) (bytes : List ℕ) → Spells u (spell u) → Decoded Spells spell us bytes → Decoded Spells spell (u ∷ us) (spell u ++ bytes)
  decodes_more u us bytes s d =
      let P : List ℕ → Type 0 = λ xs. BeginsWithUnits Spells d.units xs d.rest in
      record {
        units = u ∷ d.units;
        rest = d.rest;
        are_units = record {
          starts = (
            length (spell u),
            record { inside = omega (arith, length-append (spell u) bytes); spells = subst (Spells u) (sym (take-append_seam (spell u) bytes)) s },
            subst P (sym (drop-append_seam (spell u) bytes)) d.are_units.starts,
          );
          partial = d.are_units.partial;
        };
        following = d.following;
        are_first = ap (λ xs. u ∷ xs) d.are_first;
        of_next = d.of_next;
        are = ap (λ xs. spell u ++ xs) d.are ∙ sym (append_assoc (spell u) (flat_map spell d.units) d.rest) ∙ ap (λ xs. xs ++ d.rest) (sym (flat_map-cons spell u d.units));
      }

  -- fewer bytes than the first unit's
  decodes_none : (u : U) (us : List U) (bytes : List ℕ) → Spells u (spell u) → (more : List ℕ) → 0 < length more → spell u ≡ bytes ++ more → Decoded Spells spell (u ∷ us) bytes
  decodes_none u us bytes s more proper e = record {
    units = [];
    rest = bytes;
    are_units = record { starts = refl; partial = record { whole = u; more = more; proper = proper; spells = subst (Spells u) e s } };
    following = u ∷ us;
    are_first = refl;
    of_next = (more, proper, e);
    are = refl;
  }

  decodes_empty : (bytes more : List ℕ) → [] ≡ bytes ++ more → Decoded Spells spell [] bytes
  decodes_empty [] more e = record { units = []; rest = []; are_units = record { starts = refl; partial = some }; following = []; are_first = refl; of_next = refl; are = refl }
  decodes_empty (b ∷ bytes) more e = cc

  pub decodes : (us : List U) (bytes more : List ℕ) → AllByRecursion (λ u. Spells u (spell u)) us → flat_map spell us ≡ bytes ++ more → Decoded Spells spell us bytes
  decodes [] bytes more all e = decodes_empty bytes more e
  decodes (u ∷ us) bytes more all e =
      let whole : spell u ++ flat_map spell us ≡ bytes ++ more = sym (flat_map-cons spell u us) ∙ e in
      elim (cases_lt (length bytes) (length (spell u))) [
        | inl short ↦
            let r = split_front bytes more (spell u) (flat_map spell us) (omega arith) (sym whole) in
            let size = ap length r.1 ∙ length-append bytes r.0 in
            decodes_none u us bytes all.0 r.0 (omega (arith, size, short)) r.1
        | inr long ↦
            let r = split_front (spell u) (flat_map spell us) bytes more long whole in
            let rest = decodes us r.0 more all.1 r.2 in
            subst (Decoded Spells spell (u ∷ us)) (sym r.1) (decodes_more u us r.0 all.0 rest)
      ]
