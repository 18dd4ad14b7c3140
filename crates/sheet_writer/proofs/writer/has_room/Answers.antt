use Rattle.sheets.proofs.Writing.{some_room, no_room}
use Rattle.sheet_writer.proofs.writer.has_room.Goals as goal

pub returns-in_default : goal.returns-in_default
returns-in_default c h = no_room h c.args.words.now c.args.room c.in_default.ensures

pub returns : goal.returns
returns c h = some_room h c.args.words.now c.args.room c.in-Some.left c.in-Some.ensures.0 c.in-Some.ensures.1
