use Rattle.history.specs.StandingList.{standing}
use Rattle.history_laws.specs.Stands.{MayStand, HasChosen}
use Rattle.ss_base.proofs.MemberLaws.{All-from_in, in_Contains}
use mathlib.Core.List.{map}
use Rattle.ss_base.specs.declared.ids.Standing.{Standing}
use Rattle.ss_base.specs.Ids.{same_manifest}
use Rattle.ss_base.proofs.ApartLaws.{apart_map, IsDistinct-from_apart}
use Rattle.history_laws.proofs.StandingLaws.{what_stands}
use Rattle.history_laws.proofs.OnceLaws.{same_standing, stands_once, same_stamps}
use Rattle.history_laws.proofs.ListLaws.{standing_short, standing_chosen}
use Rattle.history_laws.proofs.standings.what_stands.Goals as goal

pub returns-clause-chosen : goal.returns-clause-chosen
returns-clause-chosen c = λ rules past bound hook legal.
    All-from_in (λ stands. HasChosen hook stands past) (standing bound hook past) (standing_chosen rules bound hook past legal)

pub returns-clause-bounded : goal.returns-clause-bounded
returns-clause-bounded c = λ rules past bound hook legal. standing_short rules bound hook past legal

pub returns-clause-committed : goal.returns-clause-committed
returns-clause-committed c = λ rules past bound hook legal.
    All-from_in (λ stands. MayStand stands past) (standing bound hook past) (what_stands rules bound hook past legal)

pub returns-clause-once : goal.returns-clause-once
returns-clause-once c = λ rules past bound hook legal.
    IsDistinct-from_apart same_manifest (map (λ (stands : Standing). stands.id) (standing bound hook past))
    (apart_map same_standing same_manifest (λ stands. stands.id) (λ a b apart. apart) (standing bound hook past) (stands_once rules bound hook past legal))

pub returns-clause-stamps : goal.returns-clause-stamps
returns-clause-stamps c = λ rules past bound hook other a b legal first second.
    same_stamps rules past a b legal
    (what_stands rules bound hook past legal a (in_Contains a (standing bound hook past) first))
    (what_stands rules bound other past legal b (in_Contains b (standing bound other past) second))
