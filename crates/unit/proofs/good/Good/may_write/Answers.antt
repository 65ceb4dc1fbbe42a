use Rattle.std.proofs.Common.{◌≡◌, drop, ap, ◌∙◌, rules}
use Rattle.unit.specs.Kinds.{is_page, has_bytes, is_gone, held_code}
use Rattle.unit.specs.Memory.{decode, count_of}
use Rattle.unit.specs.Unit.{says}
use Rattle.unit.proofs.Places.{slots_length}
use Rattle.unit.proofs.Questions.{some_held, byte_page, byte_bytes}
use Rattle.unit.proofs.good.Good.may_write.Goals as goal

page : (c : goal.After-lowest) → c.is_some_and-page.result ≡ is_page c.args.kind
unfolding is_page
page c =
    let e : c.is_some_and-page.result ≡ is_page (held_code c.of.result) = search rules in
    e ∙ ap is_page c.of.ensures ∙ byte_page c.args.kind

plain : (c : goal.After-lowest) → c.is_some_and-plain.result ≡ has_bytes c.args.kind
unfolding has_bytes
plain c =
    let e : c.is_some_and-plain.result ≡ has_bytes (held_code c.of-2.result) = search rules in
    e ∙ ap has_bytes c.of-2.ensures ∙ byte_bytes c.args.kind

gone : (c : goal.After-lowest) → c.is_some_and.result ≡ is_gone (held_code c.args.held)
unfolding is_gone
gone c = search rules

pub returns : goal.returns
unfolding decode says
returns c =
    let m = c.args.self.now in
    rw (c.lowest.ensures, c.when.ensures, c.when-2.ensures, c.when-3.ensures, c.when-4.ensures, c.when-5.ensures, c.when-6.ensures, page c, plain c, gone c, c.from.ensures, c.sealed.ensures, c.floor.ensures, c.is_some.ensures, some_held, c.count.ensures, c.requires, slots_length m.shape.cap (count_of m.mem.now) (drop 24 m.mem.now))
