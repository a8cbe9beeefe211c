use Rattle.replay_model.proofs.ActsOfOrders.{orders_drive}
use Rattle.replay_model.proofs.StoriesOfOrders.{orders_tell}
use Rattle.replay_model.proofs.orders_drive.Goals as goal

pub returns-clause-acts : goal.returns-clause-acts
returns-clause-acts c = orders_drive

pub returns-clause-story : goal.returns-clause-story
returns-clause-story c = orders_tell
