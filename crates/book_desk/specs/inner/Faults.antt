-- The faults of a post by those of its sender's name and of its body.
use Rattle.metric_events.specs.declared.sender_name.NameFault.{NameFault}
use Rattle.metric_events.specs.declared.sender_name.NameFault.TheVariants as names
use Rattle.otlp_read.specs.declared.fault.ReadFault.{ReadFault}
use Rattle.otlp_read.specs.declared.fault.ReadFault.TheVariants as bodies
use Rattle.otlp_protobuf.specs.declared.fault.ReadFault as protobuf
use Rattle.otlp_protobuf.specs.declared.fault.ReadFault.TheVariants as messages
use Rattle.book_desk.specs.declared.by_number.PutFault.{PutFault}
use Rattle.book_desk.specs.declared.by_number.PutFault.TheVariants as put
use Rattle.book_desk.specs.declared.reader.PostFault.{PostFault}
use Rattle.book_desk.specs.declared.reader.PostFault.TheVariants as faults
use Rattle.book_desk.specs.declared.reader.BytesFault.{BytesFault}
use Rattle.book_desk.specs.declared.reader.BytesFault.TheVariants as bytes

-- the fault of a post whose sender's name has this one
abbrev pub sender_fault : NameFault → PostFault
sender_fault names.NoMemory = faults.NoMemory
sender_fault fault = faults.BadSender

-- the fault of a post whose body has this one
abbrev pub body_fault : ReadFault → PostFault
body_fault bodies.NotJson = faults.NotJson
body_fault (bodies.WrongShape p) = faults.WrongShape
body_fault bodies.NoMemory = faults.NoMemory

-- the same of a post in protobuf
abbrev pub bytes_sender_fault : NameFault → BytesFault
bytes_sender_fault names.NoMemory = bytes.NoMemory
bytes_sender_fault fault = bytes.BadSender

abbrev pub bytes_fault : protobuf.ReadFault → BytesFault
bytes_fault (messages.Malformed why) = bytes.Malformed why
bytes_fault messages.NoMemory = bytes.NoMemory

-- the fault of points by number whose sender's name has this one
abbrev pub put_fault : NameFault → PutFault
put_fault names.NoMemory = put.NoMemory
put_fault fault = put.BadSender
