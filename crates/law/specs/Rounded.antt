-- The arithmetic of the code: binary64, each operation rounded as IEEE 754 says. Definitions only.
use Rattle.std.specs.Prelude.{Float}
use Rattle.std.specs.Float.Ieee.{of_bits}
use Rattle.std.specs.Float.{binary64}
use Rattle.std.specs.Float.Ieee as Ieee
use Rattle.float.specs.Root.{square_root}
use Rattle.law.specs.Arithmetic.{Arithmetic}
use Rattle.law.specs.GalileanSeries.{Divisors}

abbrev pub rounded : Arithmetic Float
rounded =
    record {
      zero = of_bits binary64 0;
      one = of_bits binary64 0x3ff0_0000_0000_0000;
      two = of_bits binary64 0x4000_0000_0000_0000;
      add = Ieee.add binary64;
      sub = Ieee.sub binary64;
      mul = Ieee.mul binary64;
      neg = Ieee.neg;
      div = Ieee.div binary64;
      root = square_root;
    }

-- 6, 120, 24 and 720
abbrev pub divisors : Divisors Float
divisors =
    record {
      six = of_bits binary64 0x4018_0000_0000_0000;
      one_hundred_twenty = of_bits binary64 0x405e_0000_0000_0000;
      twenty_four = of_bits binary64 0x4038_0000_0000_0000;
      seven_hundred_twenty = of_bits binary64 0x4086_8000_0000_0000;
    }
