-- The parts of the readers and writers.
use Rattle.std.specs.Prelude.{ℕ, List}
use Rattle.byte_ends.specs.declared.from_reader.FromReader.{FromReader}
use Rattle.byte_ends.specs.declared.to_writer.ToWriter.{ToWriter}
use Rattle.byte_ends.specs.declared.script.Script.{Script}
use Rattle.byte_ends.specs.declared.tape.Tape.{Tape}
use Rattle.byte_ends.specs.declared.step.Step.{Step}

-- the reader under a source
abbrev pub reader_of : {R : Type 0} → FromReader R → R
reader_of s = s.reader

-- the writer under a sink
abbrev pub writer_of : {W : Type 0} → ToWriter W → W
writer_of s = s.writer

-- the bytes that a script has left
abbrev pub script_bytes : Script → List ℕ
script_bytes s = s.bytes.now

-- the steps that a script has left
abbrev pub script_steps : Script → List Step
script_steps s = s.steps.now

-- the steps that a tape has left
abbrev pub tape_steps : Tape → List Step
tape_steps s = s.steps.now
