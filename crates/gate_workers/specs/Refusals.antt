-- What a refusal says.
use Rattle.std.specs.Prelude.{ℕ, List, ◌++◌, codes, decimal, Option, Some, None}
use Rattle.delta_book.specs.declared.faults.AdmitFault.{AdmitFault}
use Rattle.delta_book.specs.declared.faults.AdmitFault.TheVariants as admit
use Rattle.delta_book.specs.declared.faults.QuarantineFault.{QuarantineFault}
use Rattle.delta_book.specs.declared.faults.QuarantineFault.TheVariants as hold
use Rattle.delta_book.specs.declared.faults.NotQuarantined.{NotQuarantined as LiftFault}
use Rattle.gate_workers.specs.declared.order.OrderFault.{OrderFault}
use Rattle.gate_workers.specs.declared.order.OrderFault.TheVariants as order
use Rattle.gate_workers.specs.declared.refusal.Allowed.{Allowed}
use Rattle.gate_workers.specs.declared.refusal.Allowed.TheVariants.{Post, Get}
use Rattle.gate_workers.specs.declared.refusal.Refusal.{Refusal}
use Rattle.gate_workers.specs.declared.refusal.Refusal.TheVariants as refusal

abbrev pub refusal_status : Refusal → ℕ
refusal_status refusal.Malformed = 400
refusal_status refusal.BodyTooLong = 413
refusal_status refusal.NoSuchPath = 404
refusal_status (refusal.WrongMethod allowed) = 405
refusal_status refusal.BadSender = 400
refusal_status refusal.BadContent = 415
refusal_status refusal.NotJson = 400
refusal_status refusal.WrongShape = 400
refusal_status refusal.Quarantined = 403
refusal_status (refusal.OtherWriter i) = 400
refusal_status (refusal.OutOfOrder i f) = 400
refusal_status refusal.Full = 503
refusal_status refusal.TooManySeries = 503
refusal_status refusal.TooLarge = 503
refusal_status refusal.Already = 400
refusal_status refusal.NotQuarantined = 400
refusal_status refusal.NoFlusher = 503
refusal_status refusal.NoMemory = 503

-- points are named by their index in the batch, from 0
abbrev pub refusal_message : Refusal → List ℕ
refusal_message refusal.Malformed = codes "malformed request"
refusal_message refusal.BodyTooLong = codes "body too long"
refusal_message refusal.NoSuchPath = codes "no such path"
refusal_message (refusal.WrongMethod allowed) = codes "wrong method"
refusal_message refusal.BadSender = codes "bad sender"
refusal_message refusal.BadContent = codes "only uncompressed application/json"
refusal_message refusal.NotJson = codes "not JSON"
refusal_message refusal.WrongShape = codes "wrong shape"
refusal_message refusal.Quarantined = codes "quarantined"
refusal_message (refusal.OtherWriter i) = codes "other writer: point " ++ decimal i
refusal_message (refusal.OutOfOrder i f) =
    codes "out of order: point " ++ (decimal i ++ (codes ", frontier " ++ decimal f))
refusal_message refusal.Full = codes "full"
refusal_message refusal.TooManySeries = codes "too many series"
refusal_message refusal.TooLarge = codes "too large"
refusal_message refusal.Already = codes "already quarantined"
refusal_message refusal.NotQuarantined = codes "not quarantined"
refusal_message refusal.NoFlusher = codes "no flusher"
refusal_message refusal.NoMemory = codes "no memory"

abbrev pub allowed_name : Allowed → List ℕ
allowed_name Post = codes "POST"
allowed_name Get = codes "GET"

-- a wrong method names the one that is allowed
abbrev pub refusal_allow : Refusal → Option (List ℕ)
refusal_allow (refusal.WrongMethod allowed) = Some (allowed_name allowed)
refusal_allow why = None

abbrev pub of_admit : AdmitFault → Refusal
of_admit admit.Quarantined = refusal.Quarantined
of_admit admit.Full = refusal.Full
of_admit (admit.OtherWriter i) = refusal.OtherWriter i
of_admit (admit.OutOfOrder i f) = refusal.OutOfOrder i f
of_admit admit.TooManySeries = refusal.TooManySeries
of_admit admit.TooLarge = refusal.TooLarge
of_admit admit.NoMemory = refusal.NoMemory

abbrev pub of_quarantine : QuarantineFault → Refusal
of_quarantine hold.Already = refusal.Already
of_quarantine hold.Full = refusal.Full
of_quarantine hold.NoMemory = refusal.NoMemory

abbrev pub of_lift : LiftFault → Refusal
of_lift fault = refusal.NotQuarantined

abbrev pub of_order : OrderFault → Refusal
of_order order.Gone = refusal.NoFlusher
of_order order.NoMemory = refusal.NoMemory
