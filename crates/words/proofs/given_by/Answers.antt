-- The port, then the ten others, each in its place: what `try_from` and `unwrap_or` leave of them.
use Rattle.words.specs.Paper.{instead_height, instead_tro, asked_of}
use Rattle.words.proofs.Placing.{in_place, no_call, a_call}
use Rattle.words.proofs.given_by.Goals as goal

pub returns-in_default : goal.returns-in_default
returns-in_default c = no_call _ c.in_default.ensures

pub returns : goal.returns
unfolding asked_of
returns c = a_call _ c.in-Ok.ensures.0 (λ j. record {
  stated = record {
    kind = in_place 255 255 _ _ _ c.try_from-2.ensures c.unwrap_or.ensures j;
    parameters = record {
      rate = in_place 255 255 _ _ _ c.try_from-3.ensures c.unwrap_or-2.ensures j;
      schedule = in_place 255 255 _ _ _ c.try_from-4.ensures c.unwrap_or-3.ensures j;
      class = in_place 255 255 _ _ _ c.try_from-5.ensures c.unwrap_or-4.ensures j;
      height = in_place 65535 instead_height _ _ _ c.try_from-6.ensures c.unwrap_or-5.ensures j;
      n = in_place 4294967295 4294967295 _ _ _ c.try_from-7.ensures c.unwrap_or-6.ensures j;
      maxudp = in_place 65535 65535 _ _ _ c.try_from-8.ensures c.unwrap_or-7.ensures j;
      tro = in_place 4294967295 instead_tro _ _ _ c.try_from-9.ensures c.unwrap_or-8.ensures j;
    };
    edition = in_place 4294967295 4294967295 _ _ _ c.try_from-10.ensures c.unwrap_or-9.ensures j;
  };
  port = c.in-Ok.ensures.1 j;
  offset = in_place 4294967295 4294967295 _ _ _ c.try_from-11.ensures c.unwrap_or-10.ensures j;
})
