use Rattle.std.proofs.Common.{◌≡◌, ◌++◌, take}
use Rattle.std.specs.List.{flat_map}
use Rattle.st_report.specs.Text.{event_lines, line_text}
use Rattle.st_report.proofs.writer.Writer.events.Given as goal

-- the lines of the events so far
abbrev pub invariant-loop-event : goal.invariant-loop-event
invariant-loop-event l =
    l.self.bytes.items ≡ l.fn.self.bytes.items ++ flat_map (λ event. flat_map line_text (event_lines event)) (take l.event-index l.events)
