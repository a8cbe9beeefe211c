use denote.Param.Send.{sendable}
use Rattle.side_work.proofs.Sent.{worker_send}
use Rattle.side_work.proofs.worker.+beside+fn-beside-join+arg3.Goals as goal

pub join-result-requires-send-F : goal.join-result-requires-send-F
join-result-requires-send-F g t c κs within = search (sendable, worker_send) depth 20
