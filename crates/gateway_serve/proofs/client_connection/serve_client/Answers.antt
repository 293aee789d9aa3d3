use Rattle.std.proofs.Common.{refl}
use Rattle.gateway_serve.proofs.SameEnds.{served_at_ends}
use Rattle.gateway_serve.proofs.client_connection.serve_client.Goals as goal

pub returns-clause-served : goal.returns-clause-served
returns-clause-served g c =
    served_at_ends g.K.Store.gives _ _ _ _ _ _ _ _ _ c.request_end-reader.ensures.bytes
    c.answer_end-writer.ensures.bytes refl c.serve_between-client.ensures.served

pub returns-then-not-may_be_cut_off-clause-served
    : goal.returns-then-not-may_be_cut_off-clause-served
returns-then-not-may_be_cut_off-clause-served g c =
    served_at_ends g.K.Store.gives _ _ _ _ _ _ _ _ _ c.request_end-reader.ensures.bytes
    c.answer_end-writer.ensures.bytes refl c.serve_between-client.ensures.served
