-- Counts of the empty history.
use Rattle.std.proofs.Common.{[], refl, ap}
use Rattle.std.specs.Option.{unwrap_or}
use Rattle.ss_base.specs.Order.{object_cmp}
use Rattle.ss_base.specs.declared.object.Object.TheVariants.{Container, Manifest}
use Rattle.std.specs.FinMap as map
use Rattle.std.specs.FinSet as set
use Rattle.std.proofs.lemmas.Bool.{both_ways}
use Rattle.pins_counts.specs.Counts.{Counted}
use Rattle.history.specs.Sessions.{has, session_count}
use Rattle.history.specs.Need.{all_ended}
use Rattle.history_laws.specs.Recount.{uses_of}
use Rattle.history_laws.proofs.SessionLaws.{has_none}
use Rattle.history_counts.specs.CountsOf.{held, lists_object, AreCountsOf}

abbrev nothing : Counted
nothing = record { numbers = map.empty; sessions = []; gone = set.empty; room = 0 }

pub none_counted : AreCountsOf nothing []
unfolding held uses_of all_ended session_count has
none_counted = record {
  holds_are = λ id. ap (λ o. unwrap_or o 0) (map.get-empty object_cmp (Manifest id));
  uses_are = λ c. ap (λ o. unwrap_or o 0) (map.get-empty object_cmp (Container c));
  sessions_are = refl;
  gone_are = λ q. set.contains-empty object_cmp q;
  ready_are = λ q listed. absurd (both_ways _ (has_none (lists_object q)) listed);
}
