-- A module at its start (§1.2, §1.3), and what is tested at each later call (§1.4).
pub mod Start
pub mod Module
