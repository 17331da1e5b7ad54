-- Steps of the proof: what a contract sees of the links of one session: `LinkValue`.
use Rattle.std.specs.Prelude.{ℕ}
use Rattle.cf_links.specs.Links.{SessionTold}
use Rattle.cf_links.specs.declared.links.Links.{Ghosts as LinksOf}

pub record LinkValue : Type 0 where
  pub told : SessionTold
  pub faults : ℕ
  pub idles : ℕ

-- the list as this session adds to it
abbrev pub told_of : {L : Type 0} → LinksOf L → (session : ℕ) → L → SessionTold
told_of L session links = record { session = session; list = L.told links }

abbrev pub link_value : {L : Type 0} → LinksOf L → (session : ℕ) → L → LinkValue
link_value L session links = record { told = told_of L session links; faults = L.faults links; idles = L.idles links }
