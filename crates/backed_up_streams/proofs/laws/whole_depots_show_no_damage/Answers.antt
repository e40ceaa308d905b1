use Rattle.backed_up_streams.proofs.DamageLaws.{no_damage}
use Rattle.backed_up_streams.proofs.laws.whole_depots_show_no_damage.Goals as goal

pub returns : goal.returns
returns c = λ streams objects stored rules standings champions files input name before depot after depot' cache' fault has told depot_told of_input legal entries was whole.
    no_damage standings champions files input name before streams objects told depot stored depot_told rules was whole after depot' cache' fault has of_input legal entries
