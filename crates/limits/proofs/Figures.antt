-- "Document 003 agrees: 1080p50 gapped, n 4320, has default TRO 764.444 µs and read spacing 4.4444 µs."
-- Rate code 6 is 50. A figure is read as a whole number of its last place, rounded down: 764,444 thousandths, 44,444 ten-thousandths.
use Rattle.std.specs.Prelude.{◌≡◌}
use Rattle.laws.specs.Kit.{refl}
use Rattle.limits.specs.Fraction.{whole, ◌·◌, ◌÷◌, Same, int}
use Rattle.limits.specs.Paper.{microsecond, rate_of, frame_length, active_ratio, all_ones, default_tro, tro_grains, read_spacing}

pub tro_grains_lem : tro_grains (frame_length 6) 1080 all_ones ≡ 20640000
unfolding rate_of frame_length tro_grains default_tro int
tro_grains_lem = refl

-- S7: the default TRO
pub tro_figure : int (whole (tro_grains (frame_length 6) 1080 all_ones) · whole 1000 ÷ whole microsecond) ≡ 764444
unfolding rate_of frame_length tro_grains default_tro int
tro_figure = refl

pub spacing_grains : Same (read_spacing 0 (frame_length 6) 4320) (whole 120000)
unfolding rate_of frame_length active_ratio
spacing_grains = refl

-- P14: the spacing of the reads
pub spacing_figure : int (read_spacing 0 (frame_length 6) 4320 · whole 10000 ÷ whole microsecond) ≡ 44444
unfolding rate_of frame_length active_ratio int
spacing_figure = refl
