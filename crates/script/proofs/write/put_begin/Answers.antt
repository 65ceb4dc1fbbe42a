use Rattle.script.specs.Steps.{cue_bytes}
use Rattle.script.proofs.write.put_begin.Goals as goal

pub returns-in-Append : goal.returns-in-Append
unfolding cue_bytes
returns-in-Append c = rw c.in-Append.is c.put_append.ensures

pub returns-in-Read : goal.returns-in-Read
unfolding cue_bytes
returns-in-Read c = rw c.in-Read.is c.put_seek.ensures

pub returns-in-Fill : goal.returns-in-Fill
unfolding cue_bytes
returns-in-Fill c = rw c.in-Fill.is c.put_seek-in-Fill.ensures

pub returns-in-Trim : goal.returns-in-Trim
unfolding cue_bytes
returns-in-Trim c = rw c.in-Trim.is c.put_seek-in-Trim.ensures

pub returns-in-Prune : goal.returns-in-Prune
unfolding cue_bytes
returns-in-Prune c = rw c.in-Prune.is c.put_seek-in-Prune.ensures

pub returns-in-Reorganise : goal.returns-in-Reorganise
unfolding cue_bytes
returns-in-Reorganise c = rw c.in-Reorganise.is c.put_reorganise.ensures
