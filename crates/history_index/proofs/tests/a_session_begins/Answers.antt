use Rattle.std.proofs.Common.{[], refl, arith, lit<}
use Rattle.history.specs.Sessions.{hooks_chosen}
use Rattle.history.proofs.FirstEntry.{first_is_legal}
use Rattle.history_index.specs.Choices.{choices_for}
use Rattle.history_index.proofs.tests.a_session_begins.Goals as goal

pub add_entry-requires : goal.add_entry-requires
unfolding hooks_chosen choices_for
add_entry-requires g c = (
  lit< tt,
  (
    first_is_legal (record { bits = 1; standings = 2; champions = 2; limits = record { entries = 100; weight = 100 } }) 0 c.in_ok-name.name refl refl,
    (
      c.in_ok-make_room.ensures.agrees 2 [] c.empty_index-index.ensures,
      ((λ k d below. absurd (omega (arith, below))), refl),
    ),
  ),
)
