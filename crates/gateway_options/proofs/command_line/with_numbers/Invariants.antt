use Rattle.std.proofs.Common.{◌≡◌, drop, map}
use Rattle.clap.specs.Words.{app_of}
use Rattle.gateway_options.specs.CommandLine.{with_numbers}
use Rattle.gateway_options.specs.inner.CommandLine.{IsOwn}
use Rattle.gateway_options.specs.inner.NumberOption.{described}
use Rattle.gateway_options.proofs.command_line.with_numbers.Given as goal

abbrev pub invariant-loop-number : goal.invariant-loop-number
invariant-loop-number l = record {
  own : IsOwn l.command;
  rest : with_numbers (app_of l.command) (map described (drop l.number-index l.numbers))
      ≡ with_numbers (app_of l.fn.command) (map described l.numbers);
}
