-- A record was taken, and the flow that it is of is read on: what is kept of it, and which records remarks are or may be of.
use Rattle.std.proofs.Common.{◌≡◌, ◌≢◌, ◌+◌, ◌-◌, ◌<◌, ◌≤◌, ◌∙◌, ◌⊎◌, ℕ, zero, suc, Bool, true, List, [], ◌∷◌, ◌++◌, All, length, map, drop, replicate, slice_get, Option, None, Some, refl, sym, ap, subst, inl, inr, arith, length-append}
use Rattle.std.proofs.Math.Seq.{drop-append_seam}
use Rattle.std.proofs.lemmas.List.{drop-append-le, length-drop}
use Rattle.std.proofs.lemmas.List.Elements.{All-append, All-drop, All-nil, All-replicate, All-weaker}
use Rattle.std.proofs.lemmas.Option.{none-some, same_Some, slice_get_within}
use Rattle.cf_watch.specs.FlowValue.{FlowValue}
use Rattle.cf_watch.specs.Kept.{with_gone}
use Rattle.cf_watch.specs.Trail.{GoesOn, Heard, IsConflictNow, IsHeard, IsNew, IsWatchOf}
use Rattle.cf_watch.specs.Watched.{Watched}
use Rattle.cf_watch.specs.declared.Conflict.{Conflict}
use Rattle.cf_watch.specs.declared.Flow.{Flow}
use Rattle.cf_watch.specs.declared.Scope.{Scope}
use Rattle.cf_watch.specs.declared.Watch.{Watch}
use Rattle.cf_review.specs.Follow.{AllTold, IsTail, unread}
use Rattle.cf_review.specs.Remark.{remark_value}
use Rattle.cf_review.specs.Reviewer.{IsQuiet}
use Rattle.cf_review.specs.declared.following.Following.{Following}
use Rattle.cf_review.specs.declared.following.Stage.{Stage}
use Rattle.cf_review.specs.declared.following.Stage.TheVariants as stage

-- ---- what is kept of a flow

pub tail_of : (by : Scope) (f : Flow) (t : _) (w : Watched) (h : Heard) → IsHeard by f t w h → IsTail h f
tail_of by f t w h is =
    let v : h.value ≡ with_gone is.gone is.gone_born f = is.value in
    let bytes : h.value.bytes ≡ is.gone ++ f.bytes.items = ap (λ (x : FlowValue). x.bytes) v in
    let born : h.value.born ≡ is.gone_born ++ f.born = ap (λ (x : FlowValue). x.born) v in
    let count = is.gone_count in
    let size : length h.value.bytes ≡ length is.gone + length f.bytes.items = ap length bytes ∙ length-append is.gone f.bytes.items in
    record {
      bytes = sym (drop-append_seam is.gone f.bytes.items) ∙ ap (λ n. drop n (is.gone ++ f.bytes.items)) is.gone_count ∙ ap (drop h.base) (sym bytes);
      born = sym (drop-append_seam is.gone_born f.born) ∙ ap (λ n. drop n (is.gone_born ++ f.born)) is.born_count ∙ ap (drop h.base) (sym born);
      inside = omega (arith, size, count);
      sizes = is.flow.born.count;
      client = sym (ap (λ (x : FlowValue). x.client) v);
      asset = sym (ap (λ (x : FlowValue). x.asset) v);
      midstream = sym (ap (λ (x : FlowValue). x.midstream) v);
      conflict = sym (ap (λ (x : FlowValue). x.conflict) v);
    }

-- each byte that is kept has a record
pub even : (h : Heard) (f : Flow) → IsTail h f → length f.born ≡ length f.bytes.items
even h f t = ap length t.born ∙ length-drop h.base h.value.born ∙ ap (λ n. n - h.base) t.sizes ∙ sym (length-drop h.base h.value.bytes) ∙ ap length (sym t.bytes)

pub element : {X : Type 0} (xs : List X) (i : ℕ) → i < length xs → (x : X) × (slice_get xs i ≡ Some x)
element [] i h = absurd (omega (arith, h))
element (x ∷ xs) zero h = (x, refl)
element (x ∷ xs) (suc i) h = element xs i (omega (arith, h))

-- flow by flow
module _ (by : Scope) (records : ℕ) (watch : Watch) (ws : List Watched) (hs : List Heard) (s : IsWatchOf by records watch ws hs) where
  -- what was heard at a place, with all that is kept of it
  pub heard_at : (i : ℕ) (h : Heard) → slice_get hs i ≡ Some h →
      (f : Flow) × (t : _) × (w : Watched) × (slice_get watch.flows.items i ≡ Some f) × (slice_get ws i ≡ Some w) × IsHeard by f t w h
  heard_at i h e =
      let low = slice_get_within hs i h e in
      let (f, f_at) = element watch.flows.items i (omega (arith, low, s.heard_count, s.flow_count)) in
      let (t, t_at) = element watch.trails.items i (omega (arith, low, s.heard_count, s.trail_count)) in
      let (w, w_at) = element ws i (omega (arith, low, s.heard_count)) in
      (f, t, w, f_at, w_at, s.each i f t w h f_at t_at w_at e)

  pub tails : (i : ℕ) (h : Heard) (f : Flow) → slice_get hs i ≡ Some h → slice_get watch.flows.items i ≡ Some f → IsTail h f
  tails i h f e f_at =
      let (g, t, w, g_at, w_at, is) = heard_at i h e in
      subst (IsTail h) (same_Some g f (sym g_at ∙ f_at)) (tail_of by g t w h is)

  pub heard_of_flow : (i : ℕ) (f : Flow) → slice_get watch.flows.items i ≡ Some f → (h : Heard) × (slice_get hs i ≡ Some h)
  heard_of_flow i f e = let low = slice_get_within watch.flows.items i f e in element hs i (omega (arith, low, s.heard_count, s.flow_count))

-- ---- the records that remarks on a flow are, or may be, of

unread_same : (s : Stage) (at : ℕ) (f g : Flow) → f.born ≡ g.born → unread s at f ≡ unread s at g
unread_same stage.Waits at f g e = e
unread_same (stage.Reads r) at f g e = ap (drop at) e
unread_same stage.Broke at f g e = refl

-- they are the same where the same is kept of a flow
pub told_again : (known : ℕ → Bool) (h : Heard) (f now : Flow) (g : Following) → IsTail h f → IsTail h now → AllTold known f g → AllTold known now g
told_again known h f now g was is told = record {
  remarks = told.remarks;
  unread = subst (All (λ n. known n ≡ true)) (unread_same g.stage g.at f now (was.born ∙ sym is.born)) told.unread;
  midstream = λ n e. told.midstream n (was.midstream ∙ sym is.midstream ∙ e);
  conflict = λ c e. told.conflict c (was.conflict ∙ sym is.conflict ∙ e);
}

pub told_more : (known all : ℕ → Bool) → ((n : ℕ) → known n ≡ true → all n ≡ true) → (f : Flow) (g : Following) → AllTold known f g → AllTold all f g
told_more known all others f g told = record {
  remarks = All-weaker (λ r. known r.at_record ≡ true) (λ r. all r.at_record ≡ true) (λ r k. others r.at_record k) (map remark_value g.remarks.items) told.remarks;
  unread = All-weaker (λ n. known n ≡ true) (λ n. all n ≡ true) others (unread g.stage g.at f) told.unread;
  midstream = λ n e. others n (told.midstream n e);
  conflict = λ c e. others c.at_record (told.conflict c e);
}

-- of each of them this holds, or it is of a record of this number
abbrev pub IsKnownOr : (known : ℕ → Bool) → (number n : ℕ) → Type 0
IsKnownOr known number n = (known n ≡ true) ⊎ (n ≡ number)

pub record IsToldBut (known : ℕ → Bool) (number : ℕ) (f : Flow) (g : Following) : Type 0 where
  pub remarks : All (λ r. known r.at_record ≡ true) (map remark_value g.remarks.items)
  pub unread : All (IsKnownOr known number) (unread g.stage g.at f)
  pub midstream : (n : ℕ) → f.midstream ≡ Some n → IsKnownOr known number n
  pub conflict : (c : Conflict) → f.conflict ≡ Some c → IsKnownOr known number c.at_record

all_behind : (P : ℕ → Type 0) (n : ℕ) (xs ys : List ℕ) → All P (drop n xs) → All P ys → All P (drop n (xs ++ ys))
all_behind P n [] ys a b = All-drop P n ys b
all_behind P zero (x ∷ xs) ys a b = All-append P (x ∷ xs) ys a b
all_behind P (suc n) (x ∷ xs) ys a b = all_behind P n xs ys a b

module _ (known : ℕ → Bool) (number : ℕ) where
  -- the bytes that are new are of the record
  unread_on : (s : Stage) (at : ℕ) (f now : Flow) (count : ℕ) → now.born ≡ f.born ++ replicate count number → All (λ n. known n ≡ true) (unread s at f) →
      All (IsKnownOr known number) (unread s at now)
  unread_on stage.Broke at f now count e a = All-nil (IsKnownOr known number)
  unread_on stage.Waits at f now count e a =
      subst (All (IsKnownOr known number)) (sym e)
      (All-append (IsKnownOr known number) f.born (replicate count number) (All-weaker (λ n. known n ≡ true) (IsKnownOr known number) (λ n k. inl k) f.born a)
      (All-replicate (IsKnownOr known number) count number (inr refl)))
  unread_on (stage.Reads r) at f now count e a =
      subst (λ xs. All (IsKnownOr known number) (drop at xs)) (sym e)
      (all_behind (IsKnownOr known number) at f.born (replicate count number) (All-weaker (λ n. known n ≡ true) (IsKnownOr known number) (λ n k. inl k) (drop at f.born) a)
      (All-replicate (IsKnownOr known number) count number (inr refl)))

  conflict_on : (was now : Option Conflict) → IsConflictNow number was now → ((c : Conflict) → was ≡ Some c → known c.at_record ≡ true) → (c : Conflict) → now ≡ Some c → IsKnownOr known number c.at_record
  conflict_on was now (inl same) told c e = inl (told c (sym same ∙ e))
  conflict_on was now (inr (d, is, at)) told c e = inr (ap (λ (x : Conflict). x.at_record) (sym (same_Some d c (sym is ∙ e))) ∙ at)

  -- of a flow that goes on with this record
  pub told_on : (h later : Heard) (f now : Flow) (g : Following) → GoesOn number h later → IsTail h f → IsTail later now → AllTold known f g → IsToldBut known number now g
  told_on h later f now g goes was is told =
      let new = replicate (length goes.grows.more) number in
      let low : h.base ≤ length h.value.born = let i = was.inside in let z = was.sizes in omega (arith, i, z) in
      let born : now.born ≡ f.born ++ new =
      is.born ∙ ap (λ n. drop n later.value.born) goes.base ∙ ap (drop h.base) goes.grows.born ∙ drop-append-le h.base h.value.born new low ∙ ap (λ xs. xs ++ new) (sym was.born) in
      record {
        remarks = told.remarks;
        unread = unread_on g.stage g.at f now (length goes.grows.more) born told.unread;
        midstream = λ n e. inl (told.midstream n (was.midstream ∙ sym goes.grows.midstream ∙ sym is.midstream ∙ e));
        conflict = λ c e. conflict_on h.value.conflict later.value.conflict goes.conflict (λ d x. told.conflict d (was.conflict ∙ x)) c (sym is.conflict ∙ e);
      }

  midstream_first : (o : Option ℕ) → (o ≡ None) ⊎ (o ≡ Some number) → (n : ℕ) → o ≡ Some n → n ≡ number
  midstream_first o (inl none) n e = absurd (none-some n (sym none ∙ e))
  midstream_first o (inr is) n e = same_Some n number (sym e ∙ is)

  -- of a flow that begins with it
  pub told_first : (h later : Heard) (now : Flow) (g : Following) → IsNew number h → GoesOn number h later → IsTail later now → g.stage ≡ stage.Waits → g.remarks.items ≡ [] →
      IsToldBut known number now g
  told_first h later now g new goes is waits none =
      let records = replicate (length goes.grows.more) number in
      let born : now.born ≡ records =
      is.born ∙ ap (λ n. drop n later.value.born) (goes.base ∙ new.base) ∙ goes.grows.born ∙ ap (λ xs. xs ++ records) new.born in
      record {
        remarks = subst (λ rs. All (λ r. known r.at_record ≡ true) (map remark_value rs)) (sym none) (All-nil (λ r. known r.at_record ≡ true));
        unread = subst (λ s. All (IsKnownOr known number) (unread s g.at now)) (sym waits)
            (subst (All (IsKnownOr known number)) (sym born) (All-replicate (IsKnownOr known number) (length goes.grows.more) number (inr refl)));
        midstream = λ n e. inr (midstream_first h.value.midstream new.midstream n (sym goes.grows.midstream ∙ sym is.midstream ∙ e));
        conflict = λ c e. conflict_on h.value.conflict later.value.conflict goes.conflict (λ d x. absurd (none-some d (sym new.conflict ∙ x))) c (sym is.conflict ∙ e);
      }

  -- where the record is known too, all are
  module _ (all : ℕ → Bool) (others : (n : ℕ) → known n ≡ true → all n ≡ true) (f : Flow) (g : Following) (told : IsToldBut known number f g) where
    known_all : all number ≡ true → (n : ℕ) → IsKnownOr known number n → all n ≡ true
    known_all here n (inl k) = others n k
    known_all here n (inr e) = ap all e ∙ here

    pub told_all : all number ≡ true → AllTold all f g
    told_all here = record {
      remarks = All-weaker (λ r. known r.at_record ≡ true) (λ r. all r.at_record ≡ true) (λ r k. others r.at_record k) (map remark_value g.remarks.items) told.remarks;
      unread = All-weaker (IsKnownOr known number) (λ n. all n ≡ true) (known_all here) (unread g.stage g.at f) told.unread;
      midstream = λ n e. known_all here n (told.midstream n e);
      conflict = λ c e. known_all here c.at_record (told.conflict c e);
    }

    known_other : (n : ℕ) → n ≢ number → IsKnownOr known number n → all n ≡ true
    known_other n other (inl k) = others n k
    known_other n other (inr e) = absurd (other e)

    -- and where no remark is of it or may be of it
    pub told_quiet : (now : Following) → now.remarks.items ≡ g.remarks.items → IsQuiet f now number → AllTold all f now
    told_quiet now same quiet = record {
      remarks = subst (λ rs. All (λ r. all r.at_record ≡ true) (map remark_value rs)) (sym same)
          (All-weaker (λ r. known r.at_record ≡ true) (λ r. all r.at_record ≡ true) (λ r k. others r.at_record k) (map remark_value g.remarks.items) told.remarks);
      unread = subst (All (λ n. all n ≡ true)) (sym quiet.read) (All-nil (λ n. all n ≡ true));
      midstream = λ n e. known_other n (λ same. quiet.midstream (e ∙ ap Some same)) (told.midstream n e);
      conflict = λ c e. known_other c.at_record (quiet.conflict c e) (told.conflict c e);
    }
