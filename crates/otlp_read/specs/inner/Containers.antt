-- What a function of the walk returns for a value.
use Rattle.std.specs.Prelude.{◌≡◌, Result, Ok, Err, ⊤}
use Rattle.otlp_read.specs.declared.place.Place.{Place}
use Rattle.otlp_read.specs.declared.fault.ReadFault.{ReadFault}
use Rattle.otlp_read.specs.declared.fault.ReadFault.TheVariants as faults

-- an error of the walk names the wrong container; being out of memory says nothing of the value
abbrev pub Fails : {Y : Type 0} → ReadFault → Result Y Place → Type 0
Fails faults.NoMemory read = ⊤
Fails faults.NotJson read = ⊥
Fails (faults.WrongShape place) read = read ≡ Err place

-- the function's result, seen by view, is what the value reads as, unless memory ran out
abbrev pub Gives : {X Y : Type 0} → (X → Y) → Result X ReadFault → Result Y Place → Type 0
Gives view (Ok x) read = read ≡ Ok (view x)
Gives view (Err e) read = Fails e read
