-- The ratings of the two modules here: 20 A and 40 V either way. Assumes nothing.
use Rattle.std.specs.Prelude.{pos, negsuc}
use Rattle.power.specs.Meaning.{Ratings}

abbrev pub standard_ratings : Ratings
standard_ratings = record { low_i = negsuc 19999999; high_i = pos 20000000; low_v = negsuc 39999999; high_v = pos 40000000 }
