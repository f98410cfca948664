use Rattle.rx_cli.proofs.Common.{◌≡◌, ◌∙◌, ap, sym, refl, true, map, List, App, Text, is_simple, app_of, subcommand_of, fault_of, is_simple_and_free, rxbook}
use Rattle.rx_cli.proofs.Common.{clap_on_literals, order_of_subcommand, rules, subst}
use Rattle.clap.specs.Kinds.{HasKind}
use Rattle.rx_cli.proofs.words.order.Goals as goal

is_ready : is_simple rxbook ≡ true
unfolding clap_on_literals
is_ready = refl

is_free : is_simple_and_free rxbook ≡ true
unfolding clap_on_literals
is_free = refl

pub returns : goal.returns
returns g c =
    let is : app_of c.in_ok-command.command ≡ rxbook = c.in_ok-command.ensures in
    let words : List Text = map g.S.AsStr.text c.args.words.now in
    record {
      ok = c.order_in.ensures.is
          ∙ ap order_of_subcommand ((c.in_ok-matches.ensures.matches (ap is_simple is ∙ is_ready)).1 ∙ ap (λ (a : App). subcommand_of a words) is);
      in_range = c.order_in.ensures.in_range;
      kinds = ap (λ (a : App). fault_of a words) (sym is) ∙ c.in_ok-matches.ensures.kinds (ap is_simple_and_free is ∙ is_free);
    }

-- where `clap` refuses the words, or memory is refused
pub returns-in_err-matches-clause-kinds : goal.returns-in_err-matches-clause-kinds
returns-in_err-matches-clause-kinds g c =
    let is : app_of c.in_ok-command.command ≡ rxbook = c.in_ok-command.ensures in
    let words : List Text = map g.S.AsStr.text c.args.words.now in
    let failed : HasKind (fault_of rxbook words) c.in_err-matches.field-0.0 =
    subst (λ (a : App). HasKind (fault_of a words) c.in_err-matches.field-0.0) is
    (c.in_err-matches.ensures.kinds (ap is_simple_and_free is ∙ is_free)) in
    search (rules, failed)
