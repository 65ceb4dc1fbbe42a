use Rattle.std.proofs.Common.{◌≡◌, ap, ◌∙◌, rules}
use Rattle.unit.specs.Kinds.{held_code, is_page, was_written}
use Rattle.unit.proofs.Questions.{byte_written}
use Rattle.unit.proofs.kind.was_written.Goals as goal

pub returns : goal.returns
unfolding was_written is_page
returns c =
    let e : c.is_some_and.result ≡ was_written (held_code c.of.result) = search rules in
    e ∙ ap was_written c.of.ensures ∙ byte_written c.args.byte
