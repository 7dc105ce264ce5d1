-- Playing the records of a page on a copy of it, and what a copy lacks. Assumes nothing.
use Rattle.std.specs.Prelude.{ℕ, Bool, cond, ◌&&◌, List, [], ◌∷◌, is_some, Some, None, Option, ◌==◌, nat_le, nat_lt}
use Rattle.std.specs.Option.{unwrap_or}
use Rattle.format.specs.declared.page.Page.{Page}
use Rattle.format.specs.declared.slot.Slot.TheVariants.{Record, Job, Checkpoint}
use Rattle.format.specs.declared.slot.PageRecord.{PageRecord}
use Rattle.format.specs.declared.slot.Action.{Action}
use Rattle.format.specs.declared.slot.Action.TheVariants.{Put, TakeBack}
use Rattle.format.specs.Changes.{Meaning}
use Rattle.recovery_log.specs.Log.{Log, new_number, newest_lrc}

abbrev pub or_else : {A : Type 0} → Option A → Option A → Option A
or_else None y = y
or_else (Some x) y = Some x

module _ {C : Type 0} where
  abbrev pub acted : Meaning C → Action → C → List ℕ → List ℕ
  acted m Put c content = m.put c content
  acted m TakeBack c content = m.back c content

  -- a record is played exactly when its LRC is above the copy's, which takes that LRC
  abbrev pub play : Meaning C → PageRecord C → Page → Page
  play m r copy = cond (nat_lt copy.lrc r.lrc) (record { lrc = r.lrc; content = acted m r.action r.change copy.content }) copy

  -- the wanted records of the log played in its order
  abbrev pub played : Meaning C → (PageRecord C → Bool) → Log C → Page → Page
  played m wanted [] copy = copy
  played m wanted (None ∷ L) copy = played m wanted L copy
  played m wanted (Some (Record r) ∷ L) copy = cond (wanted r) (play m r (played m wanted L copy)) (played m wanted L copy)
  played m wanted (Some (Job e j) ∷ L) copy = played m wanted L copy
  played m wanted (Some (Checkpoint p) ∷ L) copy = played m wanted L copy

  abbrev pub of_page : ℕ → PageRecord C → Bool
  of_page p r = r.page == p

  abbrev pub up_to_lrc : ℕ → ℕ → PageRecord C → Bool
  up_to_lrc p lrc r = r.page == p && nat_le r.lrc lrc

  -- the number of the first record of the page that a copy of that LRC lacks
  abbrev pub first_lacked : ℕ → ℕ → Log C → Option ℕ
  first_lacked p lrc [] = None
  first_lacked p lrc (None ∷ L) = first_lacked p lrc L
  first_lacked p lrc (Some (Record r) ∷ L) =
      or_else (first_lacked p lrc L) (cond (r.page == p && nat_lt lrc r.lrc) (Some (new_number L)) None)
  first_lacked p lrc (Some (Job e j) ∷ L) = first_lacked p lrc L
  first_lacked p lrc (Some (Checkpoint c) ∷ L) = first_lacked p lrc L

  -- some record of the page is missing in a copy of that LRC
  abbrev pub lacks : ℕ → ℕ → Log C → Bool
  lacks p lrc L = is_some (first_lacked p lrc L)

  -- a page's last LRC: its newest record's, or the copy's if there is none
  abbrev pub last_lrc : ℕ → ℕ → Log C → ℕ
  last_lrc p lrc L = unwrap_or (newest_lrc L p) lrc
