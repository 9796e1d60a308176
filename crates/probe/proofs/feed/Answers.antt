-- No room for the summary, no state, refused, or accepted: one law each (Calls).
use Rattle.probe.proofs.Calls.{enough_words, no_state, no_summary, call_refused, call_accepted}
use Rattle.laws.specs.Kit.{sym, ap, ◌∙◌}
use Rattle.timing.specs.Feed.{fed_told}
use Rattle.timing.proofs.Dealing.{fed_in_range}
use borrow.Author.Rules.{rules}
use Rattle.probe.proofs.feed.Goals as goal

pub returns-in-Ok : goal.returns-in-Ok
returns-in-Ok c = no_summary _ _ _ _ _ _ c.if-out-lt-SUMMARY.true c.in-Ok.ensures

pub returns-in-Err : goal.returns-in-Err
returns-in-Err c = no_summary _ _ _ _ _ _ c.if-out-lt-SUMMARY.true c.in-Err.ensures

pub returns-in_default : goal.returns-in_default
returns-in_default c = no_state _ _ _ _ _ _ c.read.ensures c.in_default.is

pub lay_words-requires : goal.lay_words-requires
lay_words-requires c =
    enough_words c.args.state.now c.read.ensures c.in-Some.is

pub summarise-requires : goal.summarise-requires
summarise-requires c =
    (search rules, fed_in_range _ _ _ _ _ _ (sym c.feed.ensures.answer_is ∙ ap fed_told c.in-Ok-feed.is))

pub returns-in-Ok-feed : goal.returns-in-Ok-feed
returns-in-Ok-feed c =
    call_accepted _ _ _ _ _ _ c.read.ensures c.in-Some.is c.feed.ensures (ap fed_told c.in-Ok-feed.is)
    c.if-out-lt-SUMMARY.false c.lay_words.ensures c.summarise.ensures

pub returns-in-Err-feed : goal.returns-in-Err-feed
returns-in-Err-feed c = call_refused _ _ _ _ _ _ c.read.ensures c.in-Some.is c.feed.ensures (ap fed_told c.in-Err-feed.is)
