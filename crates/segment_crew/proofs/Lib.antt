mod NewTeams
mod BlocksCounted
