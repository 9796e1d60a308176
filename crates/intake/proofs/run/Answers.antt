-- The header, then the packets behind it; where it is unknown there are none.
use Rattle.capture.proofs.Checking.{header_known, header_unknown}
use Rattle.intake.proofs.Reading.{packets_known, packets_unknown, runs_none, asks_same, gives_same}
use Rattle.intake.proofs.run.Goals as goal

pub returns-in_default : goal.returns-in_default
returns-in_default c = runs_none _ _ _ _ (packets_unknown _ _ _ (header_unknown _ c.format_of.ensures c.in_default.is))

pub run_packets-requires : goal.run_packets-requires
run_packets-requires c = asks_same (packets_known _ _ _ (header_known _ c.format_of.ensures c.in-Some.is)) c.requires

pub returns : goal.returns
returns c = gives_same (packets_known _ _ _ (header_known _ c.format_of.ensures c.in-Some.is)) c.run_packets.ensures
