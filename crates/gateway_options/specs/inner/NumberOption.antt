-- An option of the code, as the rules of the command line see it.
use Rattle.std.specs.Prelude.{option_map}
use Rattle.gateway_options.specs.CommandLine.{Number}
use Rattle.gateway_options.specs.declared.number_option.NumberOption.{NumberOption}

-- the option's name, default and range
abbrev pub described : NumberOption → Number
described o = record {
  name = o.name.now;
  default = option_map (λ text. text.now) o.default;
  least = o.least;
  most = o.most;
}
