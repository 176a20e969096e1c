-- Laws on tests and lists that the toolchain does not have.
pub mod Tests
pub mod Lists
