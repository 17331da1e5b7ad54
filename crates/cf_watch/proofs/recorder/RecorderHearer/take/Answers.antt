use Rattle.std.proofs.Common.{◌≡◌, ◌+◌, ◌-◌, ◌++◌, ◌∷◌, [], ◌∙◌, ℕ, length, map, reverse, sym, ap, subst, arith}
use Rattle.std.proofs.lemmas.List.{map-append, reverse-append}
use Rattle.cf_records.specs.Capture.{Record}
use Rattle.cf_watch.specs.Seen.{packet_by, seen_by, with_frame}
use Rattle.cf_watch.specs.Trail.{IsWatchOf, all_kept}
use Rattle.cf_watch.proofs.AllKept.{has_all}
use Rattle.cf_watch.proofs.recorder.RecorderHearer.take.Goals as goal

pub returns : goal.returns
returns c = λ newest is.
    let by = c.args.scope in
    let count = c.args.self.now.count in
    let ws = seen_by by c.args.assets.now newest in
    let hs = all_kept c.args.self.now.watch.flows.items in
    let frame = packet_by by c.args.link.now c.args.body.now in
    let r : Record = record { stamp = c.args.stamp; link = c.args.link.now; body = c.args.body.now } in
    let before_number : count ≡ count + 1 - 1 = omega arith in
    let size : count + 1 ≡ length newest + 1 = ap (λ n. n + 1) (sym is.count) in
    let takes = c.in_ok-take.ensures.heard ws hs (subst (λ (n : ℕ). IsWatchOf by n c.args.self.now.watch ws hs) before_number is.heard) in
    let all = c.in_ok-take.ensures.all is.all in
    let heard = subst (λ (n : ℕ). IsWatchOf by (count + 1) c.take.new.self (with_frame by c.args.assets.now n frame ws) takes.now) size takes.heard in
    record {
      heard = has_all by (count + 1) c.take.new.self (seen_by by c.args.assets.now (r ∷ newest)) takes.now heard all;
      all = all;
      count = let e = is.count in omega (arith, e);
      stamped = λ recording. c.in_ok-keep_stamp.ensures recording ∙ ap (λ xs. xs ++ c.args.stamp ∷ []) (is.stamped recording)
          ∙ sym (map-append (λ (x : Record). x.stamp) (reverse newest) (r ∷ [])) ∙ ap (map (λ (x : Record). x.stamp)) (sym (reverse-append (r ∷ []) newest));
    }
