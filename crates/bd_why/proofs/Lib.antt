mod Lets
