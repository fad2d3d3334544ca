use Rattle.std.proofs.Common.{◌-◌, length}
use Rattle.st_queue.proofs.FramesLemmas.{IsBetween}
use Rattle.st_queue.proofs.reading.read_frames.Given as goal

abbrev pub invariant-loop-frames : goal.invariant-loop-frames
invariant-loop-frames l = IsBetween l.file l.first l.bytes l.frames.items l.seq l.read

abbrev pub decreases-loop-frames : goal.decreases-loop-frames
decreases-loop-frames l = length l.bytes - l.read
