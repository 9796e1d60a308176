-- Document 01's own output, and the ends of a signed number: the definitions compute to the lines as they are printed there.
use Rattle.std.specs.Prelude.{◌≡◌}
use Rattle.laws.specs.Kit.{refl, pos, negsuc}
use Rattle.bucket.specs.declared.Network.TheVariants.{Pass as Passes, Burst}
use Rattle.frame.specs.declared.Buffer.TheVariants.{Pass, Under, Over, Broken}
use Rattle.text.specs.Decimal.{codes, digits_of, digits, signed}
use Rattle.text.specs.Lines.{fields, row_line, summary_line, refusal_line}

row_printed : row_line (record {
  number = pos 0;
  kind = pos 0;
  detail = pos 0;
  fpt = pos 18900000;
  offset = pos 0;
  latency = pos 18900000;
  margin = pos 1740000;
  gap = pos 45900000;
  peak = pos 1;
  least = pos 0;
  began = pos 1;
}) ≡ codes "frame 0 0 0 18900000 0 18900000 1740000 45900000 1 0 1\n"
unfolding row_line fields digits_of
row_printed = refl

summary_printed : summary_line 5 1 2 Passes Pass ≡ codes "packets 5 frames 1 peak 2 network pass buffer pass\n"
unfolding summary_line digits_of
summary_printed = refl

failing_printed : summary_line 5 1 5 (Burst (record { first = 0; last = 4 })) (Under (record { frame = 0; place = 3 }))
    ≡ codes "packets 5 frames 1 peak 5 network burst 0 4 buffer under 0 3\n"
unfolding summary_line digits_of
failing_printed = refl

over_printed : summary_line 5 1 2 Passes (Over (record { frame = 10; place = 12 }))
    ≡ codes "packets 5 frames 1 peak 2 network pass buffer over 10 12\n"
unfolding summary_line digits_of
over_printed = refl

broken_printed : summary_line 5 1 2 Passes (Broken (record { frame = 812; kind = 1 }))
    ≡ codes "packets 5 frames 1 peak 2 network pass buffer broken 812 1\n"
unfolding summary_line digits_of
broken_printed = refl

empty_refused : refusal_line 20 0 ≡ codes "refused 20 0\n"
unfolding refusal_line digits_of
empty_refused = refl

least_printed : signed (negsuc 9223372036854775807) ≡ codes "-9223372036854775808"
unfolding digits_of
least_printed = refl

most_printed : digits 18446744073709551615 ≡ codes "18446744073709551615"
unfolding digits_of
most_printed = refl
