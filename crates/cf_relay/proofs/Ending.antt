-- What the answers of a relay mean, by what was done and by the last line.
use Rattle.cf_lane.specs.Caller.{none_before}
use Rattle.std.proofs.Common.{Err, List, Ok, Option, Result, ap, arith, subst, sym, ℕ, ◌∙◌, ◌≡◌, ◌≤◌}
use Rattle.cf_audit.specs.Line.{Close}
use Rattle.cf_lane.specs.Log.{line_about}
use Rattle.cf_outside.specs.Desk.{DeskValue}
use Rattle.cf_outside.specs.Pair.{Entry, FaultsBy}
use Rattle.cf_policy.specs.Site.{SiteValue}
use Rattle.cf_view.specs.declared.Endpoint.{Endpoint}
use Rattle.cf_relay.specs.Closing.{BeginsLines, ClosesWith, StopsWith, desk_log}
use Rattle.cf_relay.specs.Ends.{EndsAs, IdlesRose, IdlesRoseAt, RelayEnds}
use Rattle.cf_relay.specs.Relaying.{AreClosed, RelayingValue}
use Rattle.cf_relay.specs.Scene.{RoseBy, Scene, StopsBy}
use Rattle.cf_relay.specs.Stands.{StandsStopped}
use Rattle.cf_relay.specs.Taken.{StaysWhole}
use Rattle.cf_relay.specs.declared.directions.Directions.TheVariants as both
use Rattle.cf_relay.specs.declared.done.RelayDone.{RelayDone}
use Rattle.cf_relay.specs.declared.done.RelayFault.{RelayFault}
use Rattle.cf_relay.specs.declared.done.RelayFault.TheVariants as fault
use Rattle.cf_relay.specs.declared.stop.Stop.{Stop}
use Rattle.cf_relay.specs.declared.stop.Stop.TheVariants as stop
use Rattle.cf_relay.proofs.Turned.{stopped_cut, stopped_idle, stopped_link, stopped_unlogged, stopped_write, turned_done, turned_unlogged}
use Rattle.cf_relay.specs.Turned.{HasStopped, HasTurned, begun_list}

-- ---- the ends of the turns

module _ (site : SiteValue) (listen most : ℕ) (client : Endpoint) (m : ℕ) (base : Option (List (List ℕ))) (answers : List Entry) (now : RelayingValue) (d1 d2 : DeskValue) where
  -- both sides are closed, and the close line is put, or fails
  pub done_ends : HasTurned both.Together site none_before listen most client m base answers now d1.lines → AreClosed now → (r : Result RelayDone RelayFault) → ClosesWith site client now d1 d2 r →
      RelayEnds site listen most (desk_log base d2) ⊥ (begun_list site listen client m answers) r
  done_ends t closed (Ok d) (is, added, whole) =
      subst (λ (x : RelayDone). EndsAs site listen most (desk_log base d2) (begun_list site listen client m answers) x x.end) (sym is)
      (turned_done both.Together site none_before listen most client m base answers now d1.lines t (desk_log base d2) closed (λ ls e. (added ∙ e, whole)))
  done_ends t closed (Err fault.Write) may = turned_unlogged both.Together site none_before listen most client m base answers now d1.lines t (desk_log base d2) closed d2.lines d2.line_part may (λ ls b. b)
  done_ends t closed (Err fault.Link) none = absurd none
  done_ends t closed (Err fault.NoMemory) none = absurd none

  -- the relay stopped within its turns
  pub stop_ends : (why : Stop) → HasStopped both.Together site none_before listen most client m base answers why now d1.lines d1.line_part → StaysWhole (Err why) d1 → (r : Result RelayDone RelayFault) → StopsWith site client now why d1 d2 r →
      RelayEnds site listen most (desk_log base d2) ⊥ (begun_list site listen client m answers) r
  stop_ends stop.Idle h stays r (is, same) =
      subst (RelayEnds site listen most (desk_log base d2) ⊥ (begun_list site listen client m answers)) (sym is)
      (stopped_idle both.Together site none_before listen most client m base answers now d1.lines d1.line_part (desk_log base d2) h (λ ls e. (ap (λ (d : DeskValue). d.lines) same ∙ e, ap (λ (d : DeskValue). d.whole) same ∙ stays)))
  stop_ends stop.Link h stays r (is, same) =
      subst (RelayEnds site listen most (desk_log base d2) ⊥ (begun_list site listen client m answers)) (sym is)
      (stopped_link both.Together site none_before listen most client m base answers now d1.lines d1.line_part (desk_log base d2) h (λ ls e. (ap (λ (d : DeskValue). d.lines) same ∙ e, ap (λ (d : DeskValue). d.whole) same ∙ stays))).0
  stop_ends stop.Write h stays r (is, same) =
      subst (RelayEnds site listen most (desk_log base d2) ⊥ (begun_list site listen client m answers)) (sym is)
      (stopped_write both.Together site none_before listen most client m base answers now d1.lines d1.line_part (desk_log base d2) h (λ ls b. subst (λ (d : DeskValue). BeginsLines base d.lines d.line_part ls) (sym same) b))
  stop_ends (stop.Cut reason) h stays (Ok d) (is, added, whole) =
      subst (λ (x : RelayDone). EndsAs site listen most (desk_log base d2) (begun_list site listen client m answers) x x.end) (sym is)
      (stopped_cut both.Together site none_before listen most client m base answers now d1.lines d1.line_part (desk_log base d2) reason h (λ ls e. (added ∙ e, whole)))
  stop_ends (stop.Cut reason) h stays (Err fault.Write) may =
      stopped_unlogged both.Together site none_before listen most client m base answers now d1.lines d1.line_part (desk_log base d2) reason h d2.lines d2.line_part may (λ ls b. b)
  stop_ends (stop.Cut reason) h stays (Err fault.Link) none = absurd none
  stop_ends (stop.Cut reason) h stays (Err fault.NoMemory) none = absurd none

-- ---- the lines, and the answers Idle

pub close_as : (P : List ℕ → Type 0) (site : SiteValue) (client : Endpoint) (m : ℕ) {a a' b b' : ℕ} → a ≡ a' → b ≡ b' →
    P (line_about site.first client m (Close a b)) → P (line_about site.first client m (Close a' b'))
close_as P site client m p q h = rw (← p, ← q) h

pub close_idles : (site : SiteValue) (client : Endpoint) (now : RelayingValue) (d1 d2 : DeskValue) (most start idles : ℕ) (r : Result RelayDone RelayFault) → ClosesWith site client now d1 d2 r → IdlesRose most start idles r
close_idles site client now d1 d2 most start idles (Ok d) (is, added, whole) = subst (λ (x : RelayDone). IdlesRoseAt most start idles x.end) (sym is) tt
close_idles site client now d1 d2 most start idles (Err e) h = tt

pub stop_idles : (site : SiteValue) (most : ℕ) (first : Option (List (List ℕ))) (es : List Entry) (client : Endpoint) (now : RelayingValue) (d1 d2 : DeskValue) (start idles : ℕ) (why : Stop) (r : Result RelayDone RelayFault) →
    StandsStopped site none_before most first es why now d1.lines d1.line_part → StopsWith site client now why d1 d2 r → RoseBy now.idle start idles → IdlesRose most start idles r
stop_idles site most first es client now d1 d2 start idles stop.Idle r (s2, full) (is, same) rose =
    subst (IdlesRose most start idles) (sym is) (subst (λ (n : ℕ). RoseBy n start idles) full rose)
stop_idles site most first es client now d1 d2 start idles stop.Link r st (is, same) rose = subst (IdlesRose most start idles) (sym is) tt
stop_idles site most first es client now d1 d2 start idles stop.Write r st (is, same) rose = subst (IdlesRose most start idles) (sym is) tt
stop_idles site most first es client now d1 d2 start idles (stop.Cut reason) (Ok d) st (is, added, whole) rose = subst (λ (x : RelayDone). IdlesRoseAt most start idles x.end) (sym is) tt
stop_idles site most first es client now d1 d2 start idles (stop.Cut reason) (Err e) st h rose = tt

-- the count of the pair's faults rose exactly at Link
pub close_faults : (site : SiteValue) (client : Endpoint) (now : RelayingValue) (d1 d2 : DeskValue) (before after : ℕ) (r : Result RelayDone RelayFault) → ClosesWith site client now d1 d2 r → after ≡ before →
    FaultsBy before after (r ≡ Err fault.Link)
close_faults site client now d1 d2 before after (Ok d) h same = record { later = omega (arith, same); rose = λ is. cc; still = λ never. same }
close_faults site client now d1 d2 before after (Err fault.Write) h same = record { later = omega (arith, same); rose = λ is. cc; still = λ never. same }
close_faults site client now d1 d2 before after (Err fault.Link) h same = absurd h
close_faults site client now d1 d2 before after (Err fault.NoMemory) h same = absurd h

pub stop_faults : (site : SiteValue) (client : Endpoint) (now : RelayingValue) (d1 d2 : DeskValue) (old new : Scene) (why : Stop) (r : Result RelayDone RelayFault) → StopsWith site client now why d1 d2 r →
    old.links.faults ≤ new.links.faults → StopsBy why old new → FaultsBy old.links.faults new.links.faults (r ≡ Err fault.Link)
stop_faults site client now d1 d2 old new stop.Idle r (is, same) later cause = record { later = later; rose = λ e. cc; still = λ never. cause }
stop_faults site client now d1 d2 old new stop.Link r (is, same) later cause = record { later = later; rose = λ e. cause; still = λ never. absurd (never is) }
stop_faults site client now d1 d2 old new stop.Write r (is, same) later cause = record { later = later; rose = λ e. cc; still = λ never. cause.0 }
stop_faults site client now d1 d2 old new (stop.Cut reason) (Ok d) h later cause = record { later = later; rose = λ e. cc; still = λ never. cause }
stop_faults site client now d1 d2 old new (stop.Cut reason) (Err fault.Write) h later cause = record { later = later; rose = λ e. cc; still = λ never. cause }
stop_faults site client now d1 d2 old new (stop.Cut reason) (Err fault.Link) h later cause = absurd h
stop_faults site client now d1 d2 old new (stop.Cut reason) (Err fault.NoMemory) h later cause = absurd h
