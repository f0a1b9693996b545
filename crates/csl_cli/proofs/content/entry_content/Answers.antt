use Rattle.csl_cli.proofs.content.entry_content.Goals as goal

-- the witnesses are the style and the entry that the function builds
pub returns-in-Ok : goal.returns-in-Ok
returns-in-Ok c =
    (c.in_ok-parts.parts, c.in_ok-parts.ensures, c.in_ok-work.work, c.in_ok-work.ensures, c.in-Ok.ensures)
