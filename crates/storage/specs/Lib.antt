-- What storage is and what changes it (§7.2, §7.3, §7.4, §7.6, §7.7, §7.8, §7.9).
pub mod Storage
