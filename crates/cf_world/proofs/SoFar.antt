-- The records that are made so far.
use Rattle.std.proofs.Common.{◌≡◌, ◌≢◌, ◌⊎◌, ℕ, ◌+◌, ◌<◌, ◌≤◌, List, [], ◌∷◌, ◌++◌, length, take, Result, Ok, Err, refl, sym, ap, ◌∙◌, subst, arith, inl, inr}
use Rattle.std.proofs.lemmas.List.{length-append, take_all}
use Rattle.std.proofs.lemmas.List.Elements.{Contains-append_left, Contains-push}
use Rattle.std.proofs.Math.Seq.{take-append-add}
use Rattle.cf_outside.specs.Files.{Content, IsPartly, content_after_create, content_after_write, with_appended}
use Rattle.cf_outside.specs.Frames.{KeepsOtherFiles}
use Rattle.cf_outside.proofs.Content.{with_appended-twice, with_appended-nothing}
use Rattle.cf_pcap.specs.Header.{output_octets}
use Rattle.cf_records.specs.Capture.{Record}
use Rattle.cf_view.specs.Moment.{moment_limit}
use Rattle.cf_records.specs.Moments.{first_moment}
use Rattle.cf_hosts.specs.Sessions.{IsSyn}
use Rattle.cf_world.specs.Capture.{BeginsEach}
use Rattle.cf_hosts.specs.Next.{IsSent, made_record}
use Rattle.cf_world.specs.Making.{AppendsAll, AppendsPart, AppendsRecords, AreMade, IsReadAgain, least_after, record_octets, records_octets}
use Rattle.cf_world.specs.World.{HoldsCapture, HoldsCapturePart, HoldsPolicy, LeavesCapturePart, MakesWorld, WorldNamesValue}
use Rattle.cf_world.specs.declared.world.WorldFault.{WorldFault}
use Rattle.cf_world.proofs.Records.{after_more, is_capture, made_more, octets_more}

-- so many records were made, with which so many sessions have begun, and appended to a file
pub record SoFar (count begun last : ℕ) (old now : Content) : Type 0 where
  pub records : List Record
  pub made : AreMade first_moment records
  pub counted : length records ≡ count
  pub behind : least_after first_moment records ≤ last + 2000
  pub begins : BeginsEach begun records
  pub in_file : now ≡ with_appended old (records_octets records)

pub nothing_so_far : (old : Content) → SoFar 0 0 0 old old
nothing_so_far old = record {
  records = [];
  made = tt;
  counted = refl;
  behind = omega arith;
  begins = λ session below. absurd (omega (arith, below));
  in_file = sym (with_appended-nothing old);
}

begins_more : (begun after : ℕ) (rs : List Record) (r : Record) → BeginsEach begun rs →
    ((session : ℕ) → session < after → (session < begun) ⊎ IsSyn session r) → BeginsEach after (rs ++ r ∷ [])
begins_more begun after rs r begins is session below =
    elim (is session below) [
      | inl earlier ↦
          let before = begins session earlier in
          (before.0, Contains-append_left rs (r ∷ []) before.0 before.1, before.2)
      | inr now ↦ (r, Contains-push rs r, now)
    ]

-- a whole append is one of all its first octets
pub whole_part : (old new : Content) (xs : List ℕ) → new ≡ with_appended old xs → (k : ℕ) × (new ≡ with_appended old (take k xs))
whole_part old new xs appended = (length xs, appended ∙ ap (λ ys. with_appended old ys) (sym (take_all (length xs) xs (omega arith))))

-- all that is made
pub all_made : (count begun last sessions : ℕ) (old now : Content) → SoFar count begun last old now → count ≤ 1000000 →
    (count < 1000000 → sessions ≤ begun) → AppendsAll sessions old now
all_made count begun last sessions old now so_far few all = record {
  records = so_far.records;
  made = so_far.made;
  few = omega (arith, so_far.counted);
  begins = λ fewer session below. so_far.begins session (omega (arith, below, all (omega (arith, fewer, so_far.counted))));
  in_file = so_far.in_file;
}

-- one more record is appended
module _ (count begun sessions last moment after : ℕ) (packet : List ℕ) (old now new : Content) (so_far : SoFar count begun last old now)
    (sent : IsSent begun sessions last moment after packet) (below : moment < moment_limit) (again : IsReadAgain (made_record moment packet)) where
  abbrev r : Record
  r = made_record moment packet

  abbrev rs : List Record
  rs = so_far.records

  made : AreMade first_moment (rs ++ r ∷ [])
  made = made_more first_moment rs r so_far.made (omega (arith, so_far.behind, sent.later))
      (record { link = refl; below = below; short = sent.short; packet = sent.has; again = again })

  pub one_so_far : new ≡ with_appended now (record_octets r) → SoFar (count + 1) after moment old new
  one_so_far appended = record {
    records = rs ++ r ∷ [];
    made = made;
    counted = length-append rs (r ∷ []) ∙ ap (λ n. n + 1) so_far.counted;
    behind = omega (arith, after_more first_moment rs r);
    begins = begins_more begun after rs r so_far.begins sent.begins;
    in_file = appended ∙ ap (λ file. with_appended file (record_octets r)) so_far.in_file
        ∙ with_appended-twice old (records_octets rs) (record_octets r) ∙ ap (λ xs. with_appended old xs) (sym (octets_more rs r));
  }

  -- or a part of it
  pub part_made : count < 1000000 → ((k : ℕ) × (new ≡ with_appended now (take k (record_octets r)))) → AppendsPart old new
  part_made fewer (k, appended) =
      let xs = records_octets rs in
      record {
        records = rs ++ r ∷ [];
        made = made;
        few = omega (arith, length-append rs (r ∷ []), so_far.counted, fewer);
        count = length xs + k;
        in_file = appended ∙ ap (λ file. with_appended file (take k (record_octets r))) so_far.in_file ∙ with_appended-twice old xs (take k (record_octets r))
            ∙ ap (λ ys. with_appended old ys) (sym (ap (λ ys. take (length xs + k) ys) (octets_more rs r) ∙ take-append-add xs (record_octets r) k));
      }

-- the file with its header in front of them
holds_capture : (sessions : ℕ) (before first after : Content) → first ≡ content_after_write before output_octets → AppendsAll sessions first after →
    HoldsCapture sessions before after
holds_capture sessions before first after begun all =
    let xs = records_octets all.records in
    record {
      octets = output_octets ++ xs;
      records = all.records;
      is_capture = is_capture all.records all.made all.few;
      begins = all.begins;
      in_file = all.in_file ∙ ap (λ file. with_appended file xs) begun ∙ with_appended-twice (content_after_create before) output_octets xs;
    }

holds_part : (before first after : Content) → first ≡ content_after_write before output_octets → AppendsPart first after → HoldsCapturePart before after
holds_part before first after begun part =
    let xs = records_octets part.records in
    let cut : output_octets ++ take part.count xs ≡ take (24 + part.count) (output_octets ++ xs) = sym (take-append-add output_octets xs part.count) in
    record {
      octets = output_octets ++ xs;
      records = part.records;
      is_capture = is_capture part.records part.made part.few;
      in_file = inr (
        24 + part.count,
        part.in_file ∙ ap (λ file. with_appended file (take part.count xs)) begun
            ∙ with_appended-twice (content_after_create before) output_octets (take part.count xs) ∙ ap (λ ys. with_appended (content_after_create before) ys) cut,
      );
    }

-- a capture of no records, whose header was written in part
holds_nothing : (before after : Content) → IsPartly output_octets before after → HoldsCapturePart before after
holds_nothing before after partly = record { octets = output_octets; records = []; is_capture = is_capture [] tt (omega arith); in_file = partly }

-- the policy was written, and the capture was begun after it
module _ (sessions : ℕ) (names : WorldNamesValue) (before mid first : List ℕ → Content) (apart : names.policy ≢ names.capture)
    (policy : HoldsPolicy (before names.policy) (mid names.policy)) (kept : KeepsOtherFiles (names.policy ∷ []) before mid) (begun : KeepsOtherFiles (names.capture ∷ []) mid first) where
  untouched : mid names.capture ≡ before names.capture
  untouched = kept names.capture ((λ same. apart (sym same)), tt)

  holds_policy : (after : List ℕ → Content) → after names.policy ≡ mid names.policy → HoldsPolicy (before names.policy) (after names.policy)
  holds_policy after same = subst (λ file. HoldsPolicy (before names.policy) file) (sym same) policy

  -- its header was written in part
  pub header_part : IsPartly output_octets (mid names.capture) (first names.capture) → LeavesCapturePart sessions names before first
  header_part partly = record {
    policy = holds_policy first (begun names.policy (apart, tt));
    capture = holds_nothing (before names.capture) (first names.capture) (subst (λ file. IsPartly output_octets file (first names.capture)) untouched partly);
  }

  -- records were made after its header
  pub world_made : (after : List ℕ → Content) (result : Result Unit WorldFault) → first names.capture ≡ content_after_write (mid names.capture) output_octets →
      KeepsOtherFiles (names.capture ∷ []) first after → AppendsRecords sessions (first names.capture) (after names.capture) result → MakesWorld sessions names before after result
  world_made after (Ok _) header others all = record {
    policy = holds_policy after (others names.policy (apart, tt) ∙ begun names.policy (apart, tt));
    capture = holds_capture sessions (before names.capture) (first names.capture) (after names.capture) (header ∙ ap (λ file. content_after_write file output_octets) untouched) all;
  }
  world_made after (Err fault) header others part = inr (inr (record {
    policy = holds_policy after (others names.policy (apart, tt) ∙ begun names.policy (apart, tt));
    capture = holds_part (before names.capture) (first names.capture) (after names.capture) (header ∙ ap (λ file. content_after_write file output_octets) untouched) part;
  }))
