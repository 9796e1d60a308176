-- The header, then the packets behind it; where it is unknown there are none.
use Rattle.capture.proofs.Checking.{header_known, header_unknown}
use Rattle.intake.proofs.Reading.{packets_known, packets_unknown, asks_same, gives_same}
use Rattle.film.proofs.Filming.{film_none}
use Rattle.film.proofs.film.Goals as goal

pub returns-in_default : goal.returns-in_default
returns-in_default c =
    film_none _ _ _ c.fresh.ensures (packets_unknown _ _ _ (header_unknown _ c.format_of.ensures c.in_default.is))

pub film_packets-requires : goal.film_packets-requires
film_packets-requires c =
    asks_same (packets_known _ _ _ (header_known _ c.format_of.ensures c.in-Some.is)) c.requires.runs

pub returns : goal.returns
returns c =
    gives_same (packets_known _ _ _ (header_known _ c.format_of.ensures c.in-Some.is)) c.film_packets.ensures
