-- `serve POLICY SECONDS LOG NAME=A.B.C.D:PORT..`: what a service leaves, and how it ends. The main definition is `ServiceEnds`. This
-- project's own.
use Rattle.std.specs.List.{list_any}
use Rattle.std.specs.Prelude.{◌≡◌, ◌⊎◌, ◌*◌, ◌-◌, ◌<◌, ◌^◌, ◌||◌, ℕ, Bool, false, true, List, [], ◌∷◌, Option, None, Some, codes}
use Rattle.cf_links.specs.Links.{LinksEntry, LinksPlace}
use Rattle.cf_links.specs.declared.Links.{Ghosts as LinksOf}
use Rattle.cf_outside.specs.declared.Files.{Ghosts as FilesOf}
use Rattle.cf_outside.specs.declared.Sink.{Ghosts as SinkOf}
use Rattle.cf_outside.specs.Faults.{Rose}
use Rattle.cf_outside.specs.Files.{KeepsOthers, content_gone_on}
use Rattle.cf_outside.specs.Lines.{file_lines}
use Rattle.cf_policy.specs.AtEndpoint.{has_asset_at}
use Rattle.cf_policy.specs.Site.{IsSiteWithin}
use Rattle.cf_policy.specs.declared.Policy.{Policy}
use Rattle.cf_serve.specs.Broken.{BreaksLog}
use Rattle.cf_serve.specs.Served.{Serves}
use Rattle.cf_serve.specs.declared.ServeFault.{ServeFault}
use Rattle.cf_serve.specs.declared.ServeFault.TheVariants as fault
use Rattle.cf_serve.specs.declared.table.Place.{Place}
use Rattle.cf_view.specs.Endpoints.{same_endpoint}
use Rattle.cf_ending.specs.Ending.{Prints, Puts, stop_status, stop_text}
use Rattle.cf_ending.specs.Outside.{FilesValue, RisesIn, SinkValue, files_value, sink_value}
use Rattle.cf_box.specs.PolicyFile.{HasPolicy, IsRefusedBy, asset_named, site_named}
use Rattle.cf_box.specs.ServiceWords.{PlaceWord, ServiceWords}
use Rattle.cf_ending.specs.declared.Stop.{Stop}
use Rattle.cf_ending.specs.declared.Stop.TheVariants as stop
use Rattle.cf_box.specs.declared.serve.Unserved.{Unserved}
use Rattle.cf_box.specs.declared.serve.Unserved.TheVariants as unserved

-- each place has the policy's site of its name, at its endpoint
abbrev pub ArePlaces : Policy → List PlaceWord → List Place → Type 0
ArePlaces policy [] [] = Unit {0}
ArePlaces policy (word ∷ words) (place ∷ places) =
    (site_named word.asset policy ≡ Some place.site) × ((place.at ≡ word.at)
    × (IsSiteWithin place.site × ArePlaces policy words places))
ArePlaces policy _ _ = ⊥

-- the policy has no asset of the name of one of the places
abbrev pub LacksPlace : Policy → List PlaceWord → Type 0
LacksPlace policy [] = ⊥
LacksPlace policy (word ∷ words) = (asset_named word.asset policy ≡ None) ⊎ LacksPlace policy words

-- one of the places is the endpoint of an asset of the policy, so that the service would ask itself for that controller
abbrev pub takes_endpoint : Policy → List PlaceWord → Bool
takes_endpoint policy words = list_any (λ word. has_asset_at policy.assets word.at) words

-- places of one site: their controllers have one address and port
abbrev pub is_same_site : Place → Place → Bool
is_same_site p q = same_endpoint q.site.first.endpoint p.site.first.endpoint

-- one of the sites has two places, so that a client would have two sessions with it and two counts of its rates
abbrev pub shares_site : List Place → Bool
shares_site [] = false
shares_site (p ∷ ps) = list_any (λ q. is_same_site p q) ps || shares_site ps

-- why the sites of places are not served: an asset is lacking, or memory, or two places are of one
abbrev pub MissesSites : Policy → List PlaceWord → Unserved → Type 0
MissesSites policy words unserved.OwnEndpoint = ⊥
MissesSites policy words unserved.SharedSite = (places : List Place) × ArePlaces policy words places × (shares_site places ≡ true)
MissesSites policy words (unserved.Stopped stop.UnknownAsset) = LacksPlace policy words
MissesSites policy words (unserved.Stopped stop.NoMemory) = Unit {0}
MissesSites policy words (unserved.Stopped _) = ⊥

module _ (w : ServiceWords) (before after : FilesValue) (told told' : Option (List LinksEntry)) (waits waits' : ℕ) where
  -- the policy was read, no place is one of its endpoints, the site of each place was found, and no two are one; what the links told and
  -- the log got are the rounds of a service of these places, so many of them, each session by itself; the log was gone on with
  pub record HasServed (Made : ℕ → Type 0) : Type 0 where
    pub policy : Policy
    pub has : HasPolicy (before.content w.policy) policy
    pub apart : takes_endpoint policy w.places ≡ false
    pub places : List Place
    pub found : ArePlaces policy w.places places
    pub sites : shares_site places ≡ false
    pub serves : Serves places (2 * w.seconds) Made told told' (file_lines (content_gone_on (before.content w.log)))
        (file_lines (after.content w.log))

  -- the same, up to a line of the log that failed; or the log could not be gone on with
  pub record HasBroken : Type 0 where
    pub policy : Policy
    pub has : HasPolicy (before.content w.policy) policy
    pub apart : takes_endpoint policy w.places ≡ false
    pub places : List Place
    pub found : ArePlaces policy w.places places
    pub sites : shares_site places ≡ false
    pub breaks : BreaksLog places (2 * w.seconds) told told' (before.content w.log) (after.content w.log)

  -- the policy was read, no place is one of its endpoints, and it has no asset of the name of one of the places
  pub record LacksAPlace : Type 0 where
    pub policy : Policy
    pub has : HasPolicy (before.content w.policy) policy
    pub apart : takes_endpoint policy w.places ≡ false
    pub lacks : LacksPlace policy w.places

  -- the policy was read, and a place is one of its endpoints
  pub record TakesAnEndpoint : Type 0 where
    pub policy : Policy
    pub has : HasPolicy (before.content w.policy) policy
    pub takes : takes_endpoint policy w.places ≡ true

  -- the policy was read, no place is one of its endpoints, the site of each place was found, and two are one
  pub record SharesASite : Type 0 where
    pub policy : Policy
    pub has : HasPolicy (before.content w.policy) policy
    pub apart : takes_endpoint policy w.places ≡ false
    pub places : List Place
    pub found : ArePlaces policy w.places places
    pub shares : shares_site places ≡ true

  -- no file changed, and nothing was asked of the links
  pub record NothingServed : Type 0 where
    pub content : after.content ≡ before.content
    pub same : told' ≡ told

  -- nothing was asked of the links; the log is as it was, or gone on with
  pub record NothingAsked : Type 0 where
    pub log : (after.content w.log ≡ before.content w.log) ⊎ (after.content w.log ≡ content_gone_on (before.content w.log))
    pub same : told' ≡ told

  -- why a service stops: a line a cause
  abbrev pub StopsService : Stop → Type 0
  StopsService stop.ReadFault = Rose (before.read_faults w.policy) (after.read_faults w.policy) × NothingServed
  StopsService (stop.PolicyRefused r) = IsRefusedBy (before.content w.policy) r × NothingServed
  StopsService stop.UnknownAsset = LacksAPlace × NothingServed
  StopsService stop.WriteFault = HasBroken × Rose before.write_faults after.write_faults
  StopsService stop.LinkFault = HasServed (λ made. made < 2 ^ 64 - 1) × Rose waits waits'
  StopsService stop.NoMemory = NothingAsked
  StopsService _ = ⊥

  -- why a service is not begun, or stops
  abbrev pub EndsService : Unserved → Type 0
  EndsService unserved.OwnEndpoint = TakesAnEndpoint × NothingServed
  EndsService unserved.SharedSite = SharesASite × NothingServed
  EndsService (unserved.Stopped s) = StopsService s

-- what the objects outside tell of a service
pub record ServiceOutside : Type 0 where
  pub files : FilesValue
  pub sink : SinkValue
  pub told : Option (List LinksEntry)
  -- how often `listen` or `wait` failed
  pub waits : ℕ

abbrev pub service_outside : {F O L : Type 0} → FilesOf F → SinkOf O → LinksOf L → F → O → L → ServiceOutside
service_outside F O L files out links = record {
  files = files_value F files;
  sink = sink_value O out;
  told = L.told links;
  waits =
      LinksPlace.round_faults (L.place links);
}

-- why the work stops at a fault of the service
abbrev pub service_stop : ServeFault → Stop
service_stop fault.NoMemory = stop.NoMemory
service_stop fault.Write = stop.WriteFault
service_stop fault.Loop = stop.LinkFault

module _ (before after : ServiceOutside) (status : ℕ) where
  -- it made all rounds that there are numbers for
  pub record ServesOn (w : ServiceWords) : Type 0 where
    pub zero : status ≡ 0
    pub served : HasServed w before.files after.files before.told after.told before.waits after.waits (λ made. made ≡ 2 ^ 64 - 1)
    pub sink : after.sink ≡ before.sink

  -- it stopped for this cause, which is printed
  pub record Stopped (w : ServiceWords) (s : Stop) : Type 0 where
    pub cause : StopsService w before.files after.files before.told after.told before.waits after.waits s
    pub is_status : status ≡ stop_status s
    pub prints : Prints (stop_text s) (stop_status s) (stop_status s) before.sink after.sink status

  -- a place is an endpoint of the policy, or two are of one site: `usage` is printed, and nothing else happened
  pub record UnfitPlaces (w : ServiceWords) : Type 0 where
    pub two : status ≡ 2
    pub cause :
        TakesAnEndpoint w before.files after.files before.told after.told before.waits after.waits
        ⊎ SharesASite w before.files after.files before.told after.told before.waits after.waits
    pub usage : Puts (codes "usage\n") 2 2 before.sink after.sink status
    pub same : NothingServed w before.files after.files before.told after.told before.waits after.waits

  -- memory was wanting as the words were read, and nothing happened
  pub record NoWords : Type 0 where
    pub thirteen : status ≡ 13
    pub same : after ≡ before

  -- the words are no service: `usage` is printed, and nothing else happened
  pub record NoService : Type 0 where
    pub two : status ≡ 2
    pub usage : Puts (codes "usage\n") 2 2 before.sink after.sink status
    pub files : after.files ≡ before.files
    pub told : after.told ≡ before.told
    pub waits : after.waits ≡ before.waits

  -- how a service of these words ends; no file but its log changes, and no read of another file than its policy failed
  abbrev pub ServiceEnds : Option ServiceWords → Type 0
  ServiceEnds None = NoWords ⊎ NoService
  ServiceEnds (Some w) =
      NoWords ⊎ (KeepsOthers w.log before.files.content after.files.content
      × RisesIn (w.policy ∷ []) before.files.read_faults after.files.read_faults × (ServesOn w ⊎ (UnfitPlaces w ⊎ ((s : Stop) × Stopped w s))))
