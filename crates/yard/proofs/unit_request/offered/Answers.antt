use Rattle.std.proofs.Common.{◌≡◌, ◌-◌, ◌≤◌, ◌<◌, arith}
use borrow.Author.Tests.{le-leb, lt-leb}
use Rattle.client.specs.Message.{page_limit}
use Rattle.rule.specs.Serve.{kind_of, bytes_of}
use Rattle.yard.proofs.unit_request.offered.Goals as goal

pub returns-in-Some : goal.returns-in-Some
unfolding kind_of bytes_of
returns-in-Some c =
    let w = c.in-Some.ensures.lookup.0 in
    let h : c.args.page.now.len ≤ page_limit = omega (arith, w.1) in
    let all : c.from.result - 0 ≡ c.from.result = omega arith in
    (rw (le-leb _ _ h), rw (le-leb _ _ h, ← c.from.ensures) (rw all at w.2))

pub returns-in-None : goal.returns-in-None
unfolding kind_of bytes_of
returns-in-None c =
    let h : page_limit < c.args.page.now.len = omega (arith, c.in-None.ensures.lookup.0) in
    (rw (lt-leb _ _ h), rw (lt-leb _ _ h))
