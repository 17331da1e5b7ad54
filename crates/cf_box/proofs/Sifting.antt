-- An answer about a stored stream, as the answer of the command.
use Rattle.std.proofs.Common.{◌≡◌, ℕ, List, None, Option, Some, Ok, Err, refl, sym, subst, inl, inr}
use Rattle.std.specs.Prelude.{IsErrOf}
use Rattle.cf_audit.specs.declared.line.CutReason.{CutReason}
use Rattle.cf_outside.specs.Faults.{Rose}
use Rattle.cf_policy.specs.Site.{SiteValue}
use Rattle.cf_sift.specs.Names.{SiftNamesValue}
use Rattle.cf_sift.specs.Sifted.{IsSifted, SiftEnds}
use Rattle.cf_sift.specs.Stored.{GoesUpTo, stored_history}
use Rattle.cf_sift.specs.declared.SiftDone.{SiftDone}
use Rattle.cf_sift.specs.declared.SiftFault.{SiftFault}
use Rattle.cf_sift.specs.declared.SiftFault.TheVariants as fault
use Rattle.cf_words.specs.Command.{Sift}
use Rattle.cf_box.specs.Ends.{Meets, PassesPolicy, StopsFor}
use Rattle.cf_ending.specs.Outside.{Outside}
use Rattle.cf_box.specs.PolicyFile.{FindsSite}
use Rattle.cf_box.specs.Sift.{SiftLeaves, TakesStream, sift_stop}
use Rattle.cf_ending.specs.declared.Done.TheVariants as done
use Rattle.cf_ending.specs.declared.Stop.{Stop}
use Rattle.cf_ending.specs.declared.Stop.TheVariants as stop
use Rattle.cf_box.proofs.Passing.{found_passes}

module _ (policy name : List ℕ) (client : ℕ) (names : SiftNamesValue) (before after : Outside) (site : SiteValue)
    (finds : FindsSite (before.files.content policy) name site) where
  -- the policy was read, and the site was found
  passes : PassesPolicy (Sift policy name client names) before
  passes = found_passes (Sift policy name client names) before policy name site refl refl finds

  module _ (sink : after.sink ≡ before.sink) (pair : after.pair ≡ before.pair) where
    -- the stream was taken up to a cut, or to its end
    pub takes : (taken : SiftDone) (cut : Option CutReason) → taken.cut ≡ cut → IsSifted site client names before.files.content after.files.content taken →
        TakesStream policy name client names before after cut
    takes taken cut is sifted = record { site = site; finds = finds; taken = taken; is_cut = is; sifted = sifted; sink = sink; pair = pair }

    pub sift_cuts : (taken : SiftDone) (reason : CutReason) → taken.cut ≡ Some reason → IsSifted site client names before.files.content after.files.content taken →
        Meets (Sift policy name client names) before after (Err (stop.Cut reason))
    sift_cuts taken reason is sifted = (
      (
        (
          site,
          finds,
          (
            sifted.bytes,
            sifted.whole,
            (sifted.history, sifted.judged, subst (λ c. GoesUpTo site client (stored_history sifted.bytes) c sifted.history sifted.judged) is sifted.goes),
          ),
        ),
        passes,
      ),
      takes taken (Some reason) is sifted,
    )

    pub sift_ends : (taken : SiftDone) → taken.cut ≡ None → IsSifted site client names before.files.content after.files.content taken →
        Meets (Sift policy name client names) before after (Ok (done.Sifted taken.admitted taken.refused))
    unfolding takes
    sift_ends taken is sifted = record { takes = takes taken None is sifted; counts = refl }

    sift_stops : (f : SiftFault) → (IsErrOf {T = SiftDone} (Err f) fault.Read → Rose (before.files.read_faults names.stream) (after.files.read_faults names.stream)) →
        (IsErrOf {T = SiftDone} (Err f) fault.Write → Rose before.files.write_faults after.files.write_faults) →
        SiftEnds site client names before.files.content after.files.content (Err f) →
        StopsFor (Sift policy name client names) before after (sift_stop f) × SiftLeaves policy name client names before after (sift_stop f)
    sift_stops fault.NoMemory reads writes h = (tt, record { content = h; sink = sink; pair = pair })
    sift_stops fault.Read reads writes h = (inr (inl (reads refl)), inr (record { site = site; finds = finds; left = h; sink = sink; pair = pair }))
    sift_stops fault.Write reads writes h = ((inl (writes refl), passes), record { site = site; finds = finds; left = h; sink = sink; pair = pair })

    -- a fault is the stop of its cause
    pub sift_fails : (f : SiftFault) (s : Stop) → s ≡ sift_stop f →
        (IsErrOf {T = SiftDone} (Err f) fault.Read → Rose (before.files.read_faults names.stream) (after.files.read_faults names.stream)) →
        (IsErrOf {T = SiftDone} (Err f) fault.Write → Rose before.files.write_faults after.files.write_faults) →
        SiftEnds site client names before.files.content after.files.content (Err f) → Meets (Sift policy name client names) before after (Err s)
    sift_fails f s is reads writes h =
        subst (λ t. StopsFor (Sift policy name client names) before after t × SiftLeaves policy name client names before after t) (sym is)
        (sift_stops f reads writes h)
